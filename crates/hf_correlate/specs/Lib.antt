pub mod Tiles
pub mod Correlated
pub mod Gains
pub mod Answer
