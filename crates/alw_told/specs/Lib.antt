pub mod Lines
pub mod Heads
