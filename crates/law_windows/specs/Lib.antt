pub mod Windows
pub mod Turns
pub mod Following
