pub mod Says
pub mod LookingLaws
pub mod AddingLaws
pub mod Lowest
pub mod Plain
pub mod History
pub mod Laws
