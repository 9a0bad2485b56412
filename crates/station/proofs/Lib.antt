-- What the tool lists for an example.
pub mod Readings
