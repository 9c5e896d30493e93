pub mod Requests
pub mod Refusals
pub mod Causes
pub mod Codes
pub mod Kinds
pub mod Values
pub mod Said
