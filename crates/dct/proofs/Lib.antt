pub mod Flat
pub mod Halves
pub mod Lanes
pub mod Scales
pub mod Sides
pub mod Steps
pub mod Table
