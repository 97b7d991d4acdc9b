pub mod Outputs
pub mod Refusals
pub mod Tasks
pub mod Limits
pub mod ErrLines
