pub mod Homeward
pub mod Openings
pub mod Processors
pub mod Turns
