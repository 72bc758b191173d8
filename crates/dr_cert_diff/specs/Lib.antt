pub mod Comparing
pub mod Differing
pub mod Entering
pub mod Going
pub mod Laws
pub mod Rows
