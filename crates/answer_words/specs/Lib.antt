pub mod Encode
pub mod Lists
pub mod Read
