pub mod Pictures
pub mod Alone
pub mod Apart
pub mod Through
