pub mod F32
pub mod Word
pub mod Vector
pub mod Matrix
pub mod Inverse
pub mod FloatControls
