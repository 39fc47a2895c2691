pub mod Answer
pub mod Status
pub mod Told
