pub mod Finding
pub mod Hindering
pub mod Turning
pub mod Listing
pub mod Stepping
pub mod Taking
