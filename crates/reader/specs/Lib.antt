pub mod Means
pub mod Reads
