pub mod Poll
pub mod PollReply
pub mod Said
