mod Trapping
mod Working
mod Finishing
mod Leaving
mod Tying
mod Turning
mod Layings
mod Closings
mod Plain
mod Fairness
pub mod Turned
