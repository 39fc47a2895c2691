pub mod Laid
pub mod Outcome
pub mod Rooms
