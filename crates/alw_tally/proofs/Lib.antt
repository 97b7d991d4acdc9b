pub mod Telling
pub mod Sent
pub mod Adding
pub mod Sums
pub mod Following
pub mod Ending
pub mod Starting
pub mod Within
