pub mod Places
pub mod Outcomes
pub mod Sharing
pub mod Effects
pub mod Threads
