pub mod Answers
pub mod Intakes
pub mod Journals
pub mod Laws
pub mod Responses
