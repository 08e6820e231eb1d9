pub mod Laws
pub mod States
pub mod Steps
pub mod Values
