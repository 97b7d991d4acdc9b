pub mod Places
mod Chains
mod Moves
mod Walks
mod Keeping
