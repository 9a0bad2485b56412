-- A rotation without its full turns.
pub mod Rotation
