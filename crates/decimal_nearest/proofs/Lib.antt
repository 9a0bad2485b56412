-- Why the value that `decimal` answers is the nearest and the only one, and what that forbids.
pub mod Multiples
pub mod Significands
pub mod Rounded
pub mod Texts
pub mod Parts
pub mod Forbidden
