pub mod Invalidations
pub mod Members
pub mod SharedWrites
pub mod Rooms
