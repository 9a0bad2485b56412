-- Laws of the definitions of `specs/`.
pub mod Thens
pub mod Ahead
pub mod Ends
pub mod Passes
pub mod Places
pub mod Widths
