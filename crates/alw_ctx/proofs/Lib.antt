pub mod Choices
pub mod Holds
pub mod Slots
