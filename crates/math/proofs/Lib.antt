pub mod Words
pub mod Sizes
pub mod Set
pub mod FloatControls
pub mod Called
pub mod Setter
