pub mod Asking
pub mod FirstDue
pub mod Found
pub mod Outcomes
pub mod Owned
pub mod Points
pub mod Selects
