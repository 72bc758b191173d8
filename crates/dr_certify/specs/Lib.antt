pub mod Certified
pub mod Inputs
pub mod Laws
