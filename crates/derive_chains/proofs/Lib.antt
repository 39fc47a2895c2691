pub mod Counts
pub mod Tagging
pub mod ChainRows
pub mod TagsOutcome
