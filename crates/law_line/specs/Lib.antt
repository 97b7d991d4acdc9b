pub mod Protocol
pub mod Combinations
pub mod Exchanges
pub mod Census
pub mod Sound
pub mod Worked
