pub mod Filing
pub mod Kept
pub mod Nexts
