pub mod Meaning
pub mod Theorems
pub mod Sense
