pub mod Growing
pub mod Bones
pub mod Standing
pub mod Held
