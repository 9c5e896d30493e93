pub mod Layout
pub mod Tables
pub mod Ports
pub mod Endpoints
pub mod Said
