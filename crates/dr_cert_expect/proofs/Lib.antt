pub mod Alike
pub mod Covering
pub mod Figured
pub mod Judging
pub mod Naming
pub mod Refuting
pub mod Sampling
