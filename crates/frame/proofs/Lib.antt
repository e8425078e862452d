pub mod Accepted
pub mod Rectangle
pub mod Stays
pub mod Counting
pub mod Placed
mod Judging
