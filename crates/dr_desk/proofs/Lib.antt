pub mod Apart
pub mod Carried
mod Causes
pub mod Figures
pub mod Handed
pub mod Holding
pub mod Journals
mod Paged
pub mod Recorded
mod Refusing
pub mod Taken
