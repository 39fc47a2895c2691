pub mod Answer
pub mod Abi
