pub mod Begin
pub mod Admit
pub mod Submit
pub mod Plan
pub mod SubmitReply
pub mod Said
pub mod Wants
