pub mod Listing
pub mod Refused
pub mod Words
pub mod Kept
