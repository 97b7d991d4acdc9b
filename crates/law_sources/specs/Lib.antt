pub mod Parsed
pub mod ReadBack
