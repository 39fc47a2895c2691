pub mod Row
pub mod Value
