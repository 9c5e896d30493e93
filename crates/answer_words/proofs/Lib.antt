pub mod Room
pub mod Told
pub mod Said
