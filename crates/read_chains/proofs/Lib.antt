pub mod Lent
pub mod Entries
pub mod Kept
pub mod Steps
pub mod Chaining
pub mod Pointers
pub mod Arrays
