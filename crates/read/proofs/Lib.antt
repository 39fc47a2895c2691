pub mod Firsts
pub mod One
pub mod Two
pub mod Filling
pub mod Whole
