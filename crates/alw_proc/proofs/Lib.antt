pub mod Holding
pub mod Keeping
pub mod Leaving
pub mod OpeningMaps
pub mod Standing
pub mod Starting
pub mod Turning
pub mod Instructing
