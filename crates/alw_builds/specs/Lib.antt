pub mod Assembling
pub mod Listing
pub mod Making
pub mod ReadingBack
