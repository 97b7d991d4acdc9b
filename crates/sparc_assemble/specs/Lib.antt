pub mod Assembly
pub mod Data
pub mod Fillings
