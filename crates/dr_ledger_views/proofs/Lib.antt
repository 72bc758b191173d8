pub mod Asked
pub mod Callers
mod Figures
mod Least
mod LineFigures
mod Pages
mod Paged
pub mod Numbered
pub mod Ordered
pub mod Pairs
pub mod Searching
pub mod Sets
