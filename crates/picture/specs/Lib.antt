pub mod Cells
pub mod Entries
pub mod Converting
pub mod Continuing
pub mod Redrawing
pub mod Inner
pub mod InnerResults
