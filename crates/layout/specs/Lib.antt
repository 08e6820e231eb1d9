pub mod Laid
pub mod Sections
