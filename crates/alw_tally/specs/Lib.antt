pub mod Told
pub mod Moments
pub mod Counted
pub mod Tallies
pub mod Remaining
