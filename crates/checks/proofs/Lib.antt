pub mod Passed
pub mod Said
