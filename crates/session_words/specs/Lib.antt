pub mod State
pub mod Fields
