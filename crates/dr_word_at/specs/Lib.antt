pub mod Callers
pub mod Errands
pub mod Printing
