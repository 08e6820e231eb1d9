pub mod Items
pub mod Passes
pub mod Rules
