-- The laws of what leaves through C.
pub mod Giving
