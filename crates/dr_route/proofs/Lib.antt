pub mod Agreement
pub mod Excepting
pub mod Finding
pub mod NameSets
