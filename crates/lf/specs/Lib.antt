pub mod Dequantise
pub mod Correlate
pub mod Smooth
