pub mod Partition
pub mod LfFootprint
pub mod SameBut
pub mod RebuildBut
