pub mod Turns
pub mod Endings
pub mod Going
pub mod Limits
pub mod Orders
pub mod Stuck
