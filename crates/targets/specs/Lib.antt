pub mod Target
pub mod Said
pub mod Wants
