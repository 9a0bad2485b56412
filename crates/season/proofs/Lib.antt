-- The sheet of an example, and what comes of single plans.
pub mod Readings
