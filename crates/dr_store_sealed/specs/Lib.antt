pub mod Files
pub mod Held
pub mod InTables
pub mod Laws
pub mod Lines
pub mod Refusals
pub mod Seals
