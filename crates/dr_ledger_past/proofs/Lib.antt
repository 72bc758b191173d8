pub mod Alike
pub mod Before
mod Figured
pub mod Goings
pub mod Splits
