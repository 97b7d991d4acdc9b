pub mod Deliveries
pub mod Entries
pub mod Events
pub mod Handlings
pub mod Standing
pub mod Starts
pub mod Tables
pub mod TableSizes
