pub mod Laws
pub mod Started
pub mod Bulk
