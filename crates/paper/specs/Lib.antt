pub mod Widths
pub mod Events
pub mod Form
