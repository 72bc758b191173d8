pub mod Adoptions
pub mod Beginnings
pub mod Changes
pub mod Changings
pub mod Endings
pub mod Lookings
pub mod Names
