pub mod Packets
pub mod Prepare
pub mod Plan
pub mod Completion
pub mod Said
