pub mod Stages
pub mod Placing
pub mod Counts
pub mod Laws
