-- The product of leading digits and a power of ten, its cut, and its place among the floats.
pub mod Halfwords
pub mod Cutting
pub mod Settling
pub mod Leading
