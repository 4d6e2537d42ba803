pub mod Laws
pub mod Links
pub mod Trips
pub mod Lowest
pub mod Stood
pub mod Bank
