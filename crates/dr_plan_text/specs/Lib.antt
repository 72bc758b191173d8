pub mod Faults
pub mod Fields
pub mod Listening
pub mod Tables
pub mod Splits
pub mod Laws
