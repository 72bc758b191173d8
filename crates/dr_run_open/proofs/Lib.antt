pub mod Sealed
pub mod Hopping
