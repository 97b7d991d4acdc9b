pub mod Allowed
mod Examples
pub mod Laws
pub mod Made
pub mod Opened
pub mod Spelled
pub mod Stops
pub mod UnderWay
pub mod Whole
