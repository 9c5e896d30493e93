pub mod Tables
pub mod Words
pub mod Opening
pub mod Said
pub mod Fresh
