pub mod Maps
pub mod Tests
pub mod Flats
pub mod Sides
pub mod KindFlats
pub mod CellFlats
