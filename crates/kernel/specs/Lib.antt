pub mod Maps
pub mod Corner
pub mod Flat
pub mod Calls
