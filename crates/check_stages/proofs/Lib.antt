pub mod Derived
pub mod Stages
pub mod Verdict
