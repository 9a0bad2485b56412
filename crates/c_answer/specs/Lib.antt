-- What leaves through C.
pub mod Counts
pub mod Given
pub mod Places
