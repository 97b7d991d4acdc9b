pub mod Works
pub mod Seats
pub mod Ties
pub mod Turns
pub mod Ready
