pub mod Orders
pub mod Prices
pub mod Sums
