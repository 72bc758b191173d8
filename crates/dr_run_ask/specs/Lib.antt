pub mod Calls
pub mod Conversations
pub mod Laws
pub mod Lines
