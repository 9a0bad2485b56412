-- What quads and cubics give.
pub mod Curves
pub mod Quads
pub mod Cubics
pub mod Rows
