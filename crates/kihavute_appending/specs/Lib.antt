-- What appending gives to C.
pub mod Appending
