pub mod Differences
pub mod TurnRuns
pub mod Walks
pub mod Exits
pub mod RunClaims
pub mod ClaimForms
pub mod ClaimTypes
