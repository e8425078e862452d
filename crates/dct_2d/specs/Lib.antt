pub mod Drawn
pub mod Flat
pub mod Lines
pub mod Plane
pub mod Replaced
