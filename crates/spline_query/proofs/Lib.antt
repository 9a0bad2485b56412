-- The laws of a stored spline: what its check tells, and demand 3 for its raw parameter.
pub mod Checking
pub mod Steady
