pub mod Question
pub mod Wants
