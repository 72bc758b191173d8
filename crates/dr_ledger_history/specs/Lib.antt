pub mod Contents
pub mod Laws
pub mod Leaving
pub mod Lines
pub mod Takings
pub mod Told
pub mod Trees
