pub mod Lists
pub mod Storing
pub mod Pooling
pub mod Reads
