pub mod Saved
pub mod Resumable
pub mod Kept
