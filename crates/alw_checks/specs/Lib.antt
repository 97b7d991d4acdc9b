pub mod Auditing
pub mod Searching
