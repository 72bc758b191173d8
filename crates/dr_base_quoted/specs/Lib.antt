pub mod Escaping
pub mod Laws
pub mod Quoting
