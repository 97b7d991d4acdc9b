pub mod Marks
pub mod Places
pub mod Plans
pub mod Sizes
