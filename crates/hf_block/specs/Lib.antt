pub mod Sample
pub mod Dequantised
