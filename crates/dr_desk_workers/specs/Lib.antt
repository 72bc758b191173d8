pub mod Hearing
pub mod Passes
pub mod Said
pub mod Turns
