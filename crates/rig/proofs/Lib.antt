pub mod Answers
pub mod PassOn
