pub mod Chains
mod Fronts
pub mod Seen
mod Written
