pub mod Decoded
pub mod Forms
