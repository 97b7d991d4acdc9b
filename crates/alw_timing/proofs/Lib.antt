pub mod Looking
pub mod Seen
pub mod Keeping
pub mod Halting
pub mod Lines
