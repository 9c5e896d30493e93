pub mod Submit
pub mod Reply
pub mod Change
pub mod Read
pub mod Recover
