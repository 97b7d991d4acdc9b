pub mod Orders
pub mod Merges
pub mod Aims
