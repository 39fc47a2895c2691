pub mod Lent
pub mod Bones
pub mod Blocks
pub mod Columns
