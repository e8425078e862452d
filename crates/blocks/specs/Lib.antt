pub mod Leads
pub mod Blocks
pub mod Walk
pub mod Areas
