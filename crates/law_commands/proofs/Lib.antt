pub mod Again
pub mod FoundSound
pub mod Searched
pub mod ReadAgain
pub mod Resumed
pub mod StatesGoOn
