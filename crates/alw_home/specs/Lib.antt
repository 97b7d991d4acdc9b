pub mod Entries
pub mod Deliveries
