pub mod Bounds
pub mod Rising
pub mod OneTurn
pub mod Walks
