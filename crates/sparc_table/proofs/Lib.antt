mod Examples
pub mod Effects
pub mod Rows
