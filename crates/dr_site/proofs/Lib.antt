pub mod AsPlanned
pub mod Assembled
pub mod ContextsAsPlanned
pub mod FormedSites
pub mod Hopping
pub mod Looking
pub mod Shown
pub mod Strangers
