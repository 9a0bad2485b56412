-- The laws of the definitions of `specs/`.
pub mod Lines
pub mod Paths
