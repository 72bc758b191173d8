pub mod Counting
pub mod Keys
pub mod AllNumbered
pub mod Rows
