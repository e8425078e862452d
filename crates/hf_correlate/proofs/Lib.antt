pub mod LeastTiles
pub mod Tilewise
pub mod Judging
pub mod Footprint
