pub mod Happening
pub mod Laws
pub mod Times
pub mod Within
