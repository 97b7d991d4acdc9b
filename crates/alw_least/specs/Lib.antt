pub mod Days
pub mod Leasts
