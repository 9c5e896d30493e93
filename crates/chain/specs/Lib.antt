pub mod Chain
pub mod After
pub mod Lists
