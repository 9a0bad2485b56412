-- Laws of the definitions of `specs/`.
pub mod Copying
pub mod FilledCases
pub mod Unique
