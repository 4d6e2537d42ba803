pub mod Agreement
pub mod Sides
pub mod Wires
pub mod Words
pub mod Checks
pub mod Lowest
pub mod Laws
