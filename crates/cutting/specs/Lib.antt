pub mod Agreement
pub mod CutCells
pub mod CutSheet
pub mod Kept
pub mod Laws
pub mod Numbered
