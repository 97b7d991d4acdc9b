pub mod Images
pub mod Parameters
pub mod Faults
pub mod Spellings
pub mod TableReads
pub mod Sizes
pub mod Numbers
pub mod Nodes
