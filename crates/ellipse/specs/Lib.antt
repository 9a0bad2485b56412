-- An arc's ellipse, and points on it.
pub mod Turn
pub mod Ends
pub mod Shape
