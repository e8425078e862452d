pub mod Numbering
pub mod Holders
pub mod Counting
pub mod Steps
pub mod Patches
pub mod ByBlocks
pub mod Working
