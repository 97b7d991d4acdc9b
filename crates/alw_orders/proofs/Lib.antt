pub mod Kept
pub mod Scheduled
