pub mod AllCells
pub mod Passed
