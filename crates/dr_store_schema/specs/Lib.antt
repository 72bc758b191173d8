pub mod Books
pub mod Cells
pub mod Laws
pub mod Ledgers
pub mod Statements
pub mod Tables
