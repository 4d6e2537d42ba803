pub mod Says
pub mod Lowest
pub mod Laws
pub mod Pairs
