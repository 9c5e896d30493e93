pub mod Masks
pub mod Packets
pub mod Examples
