pub mod Machines
pub mod Contexts
