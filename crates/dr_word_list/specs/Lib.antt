pub mod Requeuings
pub mod Summaries
pub mod Works
