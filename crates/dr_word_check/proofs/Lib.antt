pub mod Many
pub mod Refuted
pub mod Cored
pub mod Read
