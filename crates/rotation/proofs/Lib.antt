-- The laws of a rotation without its full turns.
pub mod Turns
pub mod Values
pub mod Laws
pub mod Patterns
pub mod Radians
pub mod Readings
