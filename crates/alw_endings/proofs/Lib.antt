pub mod Told
pub mod Schedules
