pub mod Form
pub mod Decode
pub mod Encode
