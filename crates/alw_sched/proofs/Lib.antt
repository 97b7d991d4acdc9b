pub mod Seeded
pub mod Picking
pub mod GoingOn
pub mod Bounded
