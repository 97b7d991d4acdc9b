pub mod Ports
pub mod Rows
pub mod Runs
pub mod Words
