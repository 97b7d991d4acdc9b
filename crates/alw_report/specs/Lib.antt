pub mod Names
pub mod Json
pub mod Reports
pub mod Words
pub mod Worked
pub mod WorkedJson
