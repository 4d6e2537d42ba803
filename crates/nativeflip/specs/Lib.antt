pub mod Flipping
pub mod Inner
