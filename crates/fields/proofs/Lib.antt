pub mod Places
pub mod Widths
