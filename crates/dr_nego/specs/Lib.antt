pub mod Agreeing
pub mod Answering
pub mod Figures
pub mod Fragments
pub mod Laws
pub mod Proposing
pub mod Tests
