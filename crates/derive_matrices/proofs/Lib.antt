pub mod PlainWords
pub mod MatrixRoom
pub mod Walking
pub mod Lanes
pub mod MatrixWords
pub mod Placing
