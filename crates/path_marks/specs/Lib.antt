-- Cursors at every so many segments.
pub mod Marks
pub mod Marked
