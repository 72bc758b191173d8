pub mod Feeding
pub mod Fitting
pub mod Grammar
pub mod Items
pub mod Reads
pub mod Vectors
pub mod Written
