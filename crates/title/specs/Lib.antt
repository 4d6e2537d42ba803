pub mod Titles
pub mod Inner
pub mod InnerResults
pub mod History
