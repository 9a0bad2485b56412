-- Laws that more than one function cites.
pub mod Rungs
pub mod Frame
pub mod Sizes
