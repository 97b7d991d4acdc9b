mod Onto
pub mod Ascii
