pub mod Routes
pub mod Meshes
pub mod Deliveries
pub mod Keeping
