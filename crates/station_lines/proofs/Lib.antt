-- The laws of the definitions of `specs/`.
pub mod Putting
pub mod Digits
pub mod Fields
pub mod Examples
