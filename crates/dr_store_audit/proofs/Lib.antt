mod Adding
mod Forms
mod Found
pub mod Goaled
pub mod Journals
pub mod Needed
pub mod Less
mod Passing
mod Rising
mod Split
mod Stocked
mod Together
pub mod Told
