pub mod Lines
pub mod States
pub mod Checkpoints
pub mod Cuts
pub mod Differences
pub mod Waiting
pub mod Restoring
