-- The laws of the spline's formula, cited by its functions.
pub mod Spans
pub mod Counts
