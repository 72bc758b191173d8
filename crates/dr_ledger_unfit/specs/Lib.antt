pub mod Laws
pub mod Unfit
