-- What segments give to C.
pub mod Segments
