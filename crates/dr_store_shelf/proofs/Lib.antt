pub mod CellLemmas
pub mod Kept
pub mod Looked
