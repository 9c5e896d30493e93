pub mod Few
pub mod Tokens
pub mod Said
