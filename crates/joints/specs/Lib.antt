pub mod Limit
pub mod Written
pub mod Reading
pub mod Laws
pub mod OneWidth
