pub mod Places
pub mod Names
pub mod Kinds
pub mod Tree
pub mod Hashed
pub mod Pool
pub mod Bound
pub mod Cursor
