pub mod Memories
pub mod Lines
pub mod Insides
pub mod Views
