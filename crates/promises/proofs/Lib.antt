pub mod StripTake
pub mod OneResult
pub mod Mode7
pub mod Examples
