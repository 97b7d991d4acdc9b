pub mod Nodes
pub mod Shares
