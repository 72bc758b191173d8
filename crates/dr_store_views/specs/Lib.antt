pub mod Answers
pub mod Origins
pub mod Spans
pub mod Statements
