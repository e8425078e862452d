pub mod Exact
pub mod Factors
pub mod FourTimes
pub mod Powers
pub mod Rounding
pub mod Wholes
