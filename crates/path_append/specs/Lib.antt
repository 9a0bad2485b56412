-- Appending to a stored path. Definitions only.
pub mod Appending
