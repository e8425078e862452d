pub mod Ranges
pub mod Correlated
pub mod Checked
