-- The laws of what segments give through C.
pub mod SegmentsGiven
pub mod Stored
