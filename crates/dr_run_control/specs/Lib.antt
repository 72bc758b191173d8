pub mod Consoles
pub mod Laws
pub mod Names
pub mod Replies
