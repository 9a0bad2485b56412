-- The laws of what the reader gives to C.
pub mod ReadingGiven
pub mod Keeping
