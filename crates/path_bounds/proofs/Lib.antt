-- The laws of size: what rounding, sums, products, roots, samples, tables and whole paths of calm points stay within.
pub mod Tested
pub mod Roots
pub mod Lengths
pub mod Segments
pub mod Arcs
pub mod Angles
pub mod Ways
