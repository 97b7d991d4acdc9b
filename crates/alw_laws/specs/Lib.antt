pub mod Views
pub mod Traffic
pub mod Parts
pub mod Shown
