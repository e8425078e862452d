pub mod Corner
pub mod Sides
pub mod Accepted
pub mod Facts
