pub mod Harmless
pub mod Pages
