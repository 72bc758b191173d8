pub mod Cells
pub mod Laws
pub mod Names
pub mod Routes
