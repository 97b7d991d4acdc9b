pub mod Tables
pub mod Pools
pub mod Chains
