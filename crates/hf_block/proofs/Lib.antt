pub mod Block
pub mod Footprint
