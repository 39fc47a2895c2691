pub mod Bytes
pub mod ReadIn
