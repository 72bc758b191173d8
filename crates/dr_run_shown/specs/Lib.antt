pub mod Laws
pub mod Showing
