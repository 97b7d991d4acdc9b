pub mod Standing
pub mod Dating
