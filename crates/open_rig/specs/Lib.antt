pub mod Open
pub mod Records
pub mod Tables
