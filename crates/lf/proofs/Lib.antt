pub mod Grids
pub mod Dequantising
pub mod Correlating
pub mod Smoothing
