pub mod Arith
pub mod Same
