pub mod Spills
pub mod Settlements
