pub mod Keys
pub mod Waits
pub mod Held
pub mod Agreeing
pub mod Cutting
pub mod Restored
pub mod FrontBack
