pub mod Cells
pub mod Either
pub mod Held
pub mod Laws
pub mod Shelves
pub mod Tested
