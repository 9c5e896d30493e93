pub mod Rules
pub mod Said
