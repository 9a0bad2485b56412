-- What a reader of one argument promises. Definitions only.
pub mod Reading
