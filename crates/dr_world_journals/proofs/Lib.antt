pub mod Among
pub mod Back
pub mod Hopping
pub mod Mismatched
pub mod OneHistory
pub mod Reasons
pub mod Shown
pub mod Stored
