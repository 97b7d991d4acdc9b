pub mod Refused
pub mod NoEvict
pub mod Ended
pub mod Formed
pub mod Kept
