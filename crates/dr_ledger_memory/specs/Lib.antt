pub mod Bringings
pub mod Changes
pub mod Contents
pub mod Dues
pub mod Entries
pub mod Jobs
pub mod Sound
pub mod Unfits
