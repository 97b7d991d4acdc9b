pub mod Texts
pub mod Lines
pub mod Readings
pub mod Fronts
pub mod Fields
pub mod Raw
pub mod Lists
