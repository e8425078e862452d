pub mod Cells
pub mod Map
pub mod Checked
