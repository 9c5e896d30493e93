pub mod Apply
pub mod Read
pub mod Slices
