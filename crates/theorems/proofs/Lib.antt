pub mod Fitting
pub mod Answers
pub mod TagChains
pub mod Theorems
pub mod Refusals
pub mod Exports
pub mod Printing
