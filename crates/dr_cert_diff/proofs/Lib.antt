pub mod Adding
pub mod Answering
pub mod Finding
pub mod Gathering
pub mod Lawful
pub mod Refining
