pub mod Typed
pub mod TagChains
pub mod Theorems
pub mod Refusals
pub mod Exports
pub mod Printing
