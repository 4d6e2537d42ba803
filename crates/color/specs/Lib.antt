pub mod Color
pub mod Inner
pub mod Channel
