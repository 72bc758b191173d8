pub mod OneReading
pub mod Cores
pub mod AsItStands
