pub mod Strips
pub mod Calls
pub mod Inner
pub mod InnerResults
