-- The laws of quads and cubics, cited by their functions.
pub mod Finite
pub mod Differences
pub mod Steady
