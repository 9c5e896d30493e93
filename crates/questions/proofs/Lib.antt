pub mod Target
pub mod Wants
