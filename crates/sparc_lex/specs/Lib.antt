pub mod Characters
pub mod Cut
