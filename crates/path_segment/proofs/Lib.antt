-- Laws of the stored form of a segment.
pub mod Widths
pub mod Reading
pub mod Tables
pub mod Runs
