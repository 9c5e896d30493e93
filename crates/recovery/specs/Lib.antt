pub mod Places
pub mod Entries
pub mod Reports
pub mod Recover
pub mod RecoveryReply
pub mod Said
