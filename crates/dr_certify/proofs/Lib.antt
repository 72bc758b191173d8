pub mod Digests
pub mod Found
pub mod Moved
pub mod Read
