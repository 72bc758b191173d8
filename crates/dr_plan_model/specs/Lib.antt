pub mod Formed
pub mod Laws
pub mod Listening
pub mod Listings
pub mod Naming
pub mod Networks
pub mod Plans
pub mod Walks
