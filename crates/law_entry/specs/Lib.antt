pub mod Entries
pub mod Courses
