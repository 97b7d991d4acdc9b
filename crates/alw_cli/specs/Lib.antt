pub mod Streams
pub mod Headline
pub mod Answers
pub mod Answered
