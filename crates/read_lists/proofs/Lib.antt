pub mod Taking
pub mod Standing
pub mod Leading
pub mod Frames
pub mod Reading
pub mod Outcomes
pub mod Others
