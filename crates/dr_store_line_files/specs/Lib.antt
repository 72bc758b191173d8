pub mod Filed
pub mod Following
pub mod Laws
pub mod Several
