pub mod Padding
pub mod Pattern
pub mod Rows
