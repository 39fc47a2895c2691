pub mod Outcome
pub mod Front
pub mod Working
