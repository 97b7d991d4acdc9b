pub mod PlaceMaps
pub mod Seen
