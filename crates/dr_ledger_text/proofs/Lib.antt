pub mod Chained
mod OneLine
pub mod Pieces
mod Spelled
