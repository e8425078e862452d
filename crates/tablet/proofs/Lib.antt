pub mod Codes
pub mod RowOrder
pub mod Accepted
