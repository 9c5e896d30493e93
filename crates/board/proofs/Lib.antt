pub mod Calls
pub mod Quiet
pub mod Column
