pub mod Limits
pub mod Runs
