pub mod Documents
pub mod Laws
pub mod Markup
pub mod Pieces
