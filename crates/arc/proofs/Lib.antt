-- Why the queries of an arc never step back, worked examples, and the passes over the samples of an arc.
pub mod Steady
mod Readings
pub mod Rows
