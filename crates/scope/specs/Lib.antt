pub mod Affected
pub mod Scope
pub mod Returned
