pub mod Audits
pub mod Endings
pub mod Figures
pub mod Names
pub mod Places
pub mod Readings
pub mod Telling
