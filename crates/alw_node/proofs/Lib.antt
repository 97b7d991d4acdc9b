pub mod Fitting
pub mod Given
pub mod KeptMembers
pub mod Takings
