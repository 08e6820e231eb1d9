pub mod Parts
pub mod Bytes
pub mod Layouts
pub mod Lengths
pub mod Entries
pub mod Images
pub mod Proved
pub mod Changes
