-- What the reader gives to C.
pub mod Reading
