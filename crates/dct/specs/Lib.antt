pub mod Flat
pub mod Scale
pub mod Secants
pub mod Sides
pub mod Strips
pub mod Table
pub mod Transform
