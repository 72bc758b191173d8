pub mod Hops
pub mod Journals
pub mod Laws
pub mod Mismatching
pub mod Theorem
