pub mod Stores
pub mod Laws
pub mod Widths
pub mod WordLists
pub mod Bytes
pub mod RunLaws
