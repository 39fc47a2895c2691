pub mod Index
pub mod Pile
pub mod Indexing
