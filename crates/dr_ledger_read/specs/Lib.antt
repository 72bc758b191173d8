pub mod Behind
pub mod Cutting
pub mod Held
pub mod Laws
pub mod Pieces
pub mod Places
pub mod Reading
