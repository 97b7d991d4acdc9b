mod Coded
mod Products
pub mod Lanes
mod Lines
mod RunWords
pub mod Outcomes
pub mod RegisterWords
