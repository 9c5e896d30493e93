pub mod Direct
pub mod Replies
