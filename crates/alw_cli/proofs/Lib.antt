pub mod Answering
pub mod Completing
pub mod Headlines
pub mod Each
