pub mod All
pub mod Answers
pub mod Expanded
pub mod Faults
pub mod Laws
pub mod Runs
pub mod Tasks
pub mod Verdicts
