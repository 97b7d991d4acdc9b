pub mod Traffic
pub mod Chains
pub mod Keeping
