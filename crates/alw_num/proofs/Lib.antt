pub mod Examples
pub mod Sets
pub mod Weigh
pub mod Words
pub mod MapLaws
pub mod Ranks
pub mod MapLengths
pub mod Lists
pub mod Alls
mod Sums
mod Quotients
