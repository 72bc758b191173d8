pub mod Answers
pub mod Codes
pub mod Ends
pub mod Hops
pub mod Instances
pub mod Openings
pub mod Sealings
pub mod Statuses
