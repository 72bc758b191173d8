pub mod Contexts
pub mod Forms
pub mod Parts
pub mod Routing
pub mod Sites
