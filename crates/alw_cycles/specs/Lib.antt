pub mod ByTime
pub mod Timing
