-- A morph of two shapes: the shapes, the shape between them, its bounds.
pub mod Shapes
pub mod Evaluate
pub mod Bounds
pub mod Morph
