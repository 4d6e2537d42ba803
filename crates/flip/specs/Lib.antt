pub mod Flips
pub mod Matching
pub mod Inner
