pub mod Bytes
pub mod Carried
pub mod Found
pub mod Starts
pub mod Tables
