pub mod Run
pub mod Sound
pub mod Completed
