pub mod Differing
pub mod Expecting
pub mod Keys
pub mod Replies
pub mod Runs
pub mod Tasks
pub mod Unsealing
