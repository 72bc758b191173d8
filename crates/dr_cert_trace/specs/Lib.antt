pub mod Found
pub mod Laws
pub mod Reaches
pub mod Routes
pub mod Rows
pub mod Stages
pub mod Traces
