pub mod Sides
pub mod Desks
pub mod Laws
pub mod Calls
