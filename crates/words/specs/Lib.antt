pub mod InnerResults
pub mod Answers
pub mod Bytes
pub mod Fields
pub mod Loops
pub mod Inner
