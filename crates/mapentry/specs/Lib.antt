pub mod Entry
pub mod Inner
pub mod InnerResults
