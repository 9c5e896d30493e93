pub mod Parts
pub mod Told
pub mod PartWords
pub mod CallWords
pub mod WordsCall
