pub mod Links
pub mod LineEvents
pub mod Standing
