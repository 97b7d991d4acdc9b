pub mod Bests
pub mod Due
pub mod Picks
