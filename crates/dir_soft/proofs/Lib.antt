pub mod Walks
pub mod Links
pub mod Entries
pub mod Pools
pub mod Moves
pub mod Rooms
