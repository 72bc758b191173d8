pub mod Counted
pub mod Laws
pub mod Lines
pub mod Paging
pub mod Places
pub mod Refusals
pub mod Shown
