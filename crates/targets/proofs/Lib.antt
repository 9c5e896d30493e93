pub mod Said
pub mod LowSpeed
