pub mod Bringing
pub mod Changes
pub mod Laws
pub mod Sealing
pub mod Writing
