pub mod Allowed
pub mod Homes
pub mod Refills
