pub mod Entering
pub mod InOrder
pub mod Laws
pub mod Listing
pub mod Visiting
