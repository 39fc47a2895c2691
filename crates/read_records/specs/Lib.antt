pub mod Header
pub mod Entry
