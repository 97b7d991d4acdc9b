pub mod Trapped
pub mod Begun
pub mod Kept
