pub mod Mapped
pub mod Linked
pub mod Keeping
pub mod Opening
pub mod Booked
pub mod Alone
pub mod Counting
