pub mod Pools
pub mod Names
pub mod Rows
pub mod Bones
pub mod Stretches
pub mod Blocks
pub mod Keeping
pub mod Chains
