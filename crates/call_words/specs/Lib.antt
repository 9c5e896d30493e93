pub mod Parts
pub mod Form
pub mod Arguments
pub mod Decode
pub mod Encode
pub mod Fits
