pub mod Placing
pub mod Linked
pub mod Records
pub mod Names
pub mod Filling
pub mod Outcome
pub mod Working
