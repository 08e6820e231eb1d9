pub mod Cuts
pub mod Tables
