-- Floats by their values, and their patterns; the f32 that an f64's pattern is rounded to; a difference of whole numbers; their packing.
pub mod Finite
pub mod Values
pub mod Single
pub mod Taken
pub mod Packed
pub mod Near
pub mod Head
pub mod Product
pub mod Sine
