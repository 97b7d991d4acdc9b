pub mod Numerals
pub mod Splits
