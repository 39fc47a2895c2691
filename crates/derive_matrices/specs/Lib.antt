pub mod Walking
pub mod Lanes
pub mod Transforming
