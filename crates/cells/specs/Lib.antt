pub mod Framed
pub mod Cells
pub mod Passes
pub mod Stored
