pub mod Bodies
pub mod Extents
pub mod Fitting
pub mod Laws
pub mod Place
pub mod Refusals
pub mod Sums
