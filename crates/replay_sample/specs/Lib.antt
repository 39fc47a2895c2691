pub mod Parts
pub mod Run
pub mod Lent
pub mod Counts
