pub mod Signed
pub mod Options
pub mod Parts
pub mod Records
