pub mod Forms
pub mod Running
pub mod Replaying
