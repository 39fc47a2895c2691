pub mod Telling
pub mod Statuses
pub mod Told
