pub mod Choices
pub mod Places
pub mod Table
pub mod Values
