pub mod CodedRanges
pub mod Grammar
pub mod InstrWords
pub mod LineRanges
pub mod Passes
pub mod Reading
pub mod Sums
