pub mod Data
pub mod Onto
