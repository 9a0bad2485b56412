-- The laws of what curves give through C.
pub mod LoneGiven
pub mod SplinesGiven
pub mod Receiving
