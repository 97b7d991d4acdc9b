mod Lines
mod Statements
mod Turns
mod Deeds
mod Entries
mod Journals
pub mod Logs
