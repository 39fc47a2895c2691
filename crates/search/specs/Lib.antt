pub mod First
pub mod Searched
