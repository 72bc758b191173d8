pub mod Asking
pub mod Forms
pub mod Laws
pub mod Orders
