pub mod Going
pub mod Searching
