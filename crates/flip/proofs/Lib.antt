pub mod Group
pub mod Eights
pub mod Rows
pub mod Equivalence
