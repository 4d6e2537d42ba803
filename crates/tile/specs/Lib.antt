pub mod Bits
pub mod Layout
pub mod Packings
pub mod Inner
pub mod Tile
