pub mod Stores
pub mod Following
pub mod Fragments
pub mod Worked
