pub mod Sent
pub mod Deadlines
