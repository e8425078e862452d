pub mod Laws
pub mod Patch
pub mod Sub
pub mod Rest
pub mod Sized
pub mod Windows
