pub mod Refusals
pub mod Routing
pub mod Saving
pub mod Resuming
