pub mod Expected
pub mod Laws
pub mod Looking
pub mod Rows
pub mod Samples
