pub mod RowEvents
pub mod MainEvents
pub mod Reach
pub mod Leaves
pub mod Renewing
