-- The laws of point lists: legs and running lengths by index, the first length that is not finite, points written one after the other.
pub mod Legs
pub mod FirstNotFinite
pub mod Measuring
pub mod Rows
