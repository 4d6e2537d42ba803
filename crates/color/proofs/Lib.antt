pub mod Places
pub mod Together
pub mod Packing
pub mod Unpacking
pub mod Channels
pub mod Trips
pub mod Laws
pub mod Lowest
