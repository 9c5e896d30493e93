pub mod Place
pub mod Move
