pub mod Actions
pub mod Soundness
pub mod Courses
pub mod Pointers
