pub mod Values
pub mod FlatRuns
pub mod Endings
pub mod Machines
pub mod Holds
pub mod Replies
