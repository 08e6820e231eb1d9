pub mod Places
pub mod Settle
