-- What the angles of math.rs are.
pub mod Angles
