pub mod Commands
pub mod Messages
pub mod Reads
pub mod Stages
pub mod Taking
pub mod Vectors
pub mod Written
