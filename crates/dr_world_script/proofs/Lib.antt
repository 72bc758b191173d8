mod Figures
mod Items
mod Lines
mod One
pub mod Placing
mod Spelling
mod Splitting
mod Telling
