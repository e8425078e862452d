pub mod Blocks
pub mod Weighed
