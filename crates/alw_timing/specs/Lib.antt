pub mod Takes
pub mod Timing
pub mod Texts
