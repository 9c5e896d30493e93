pub mod Fields
pub mod Setup
pub mod Ports
pub mod Speeds
pub mod Completion
