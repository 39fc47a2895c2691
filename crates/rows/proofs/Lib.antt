pub mod Words
pub mod Storing
pub mod ReadBack
pub mod Rows
