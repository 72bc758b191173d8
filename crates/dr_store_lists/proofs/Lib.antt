pub mod Alike
pub mod Apart
pub mod Lists
pub mod Numbers
pub mod Orders
pub mod Wholes
