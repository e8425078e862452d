pub mod Framing
pub mod Blocks
pub mod Parts
pub mod Steps
pub mod Made
