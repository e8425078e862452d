pub mod Drawings
pub mod Paintings
pub mod Passes
pub mod Planes
pub mod Stores
