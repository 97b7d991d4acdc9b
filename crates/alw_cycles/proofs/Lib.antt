pub mod Kept
pub mod Timed
pub mod Told
