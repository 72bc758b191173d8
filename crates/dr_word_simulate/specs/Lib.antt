pub mod Orders
pub mod Reported
pub mod Outcomes
pub mod Runs
pub mod Tasks
