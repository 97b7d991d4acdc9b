pub mod Kinds
pub mod Contents
pub mod Events
pub mod Statuses
pub mod Lists
pub mod Sending
pub mod Stretches
