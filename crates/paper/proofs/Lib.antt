pub mod Widths
pub mod Papers
pub mod Examples
