pub mod ChainRows
pub mod Tagging
