pub mod Joined
pub mod Says
pub mod Taking
pub mod Standing
pub mod Laws
pub mod Own
