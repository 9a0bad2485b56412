-- Laws of the definitions of `specs/`.
pub mod StepCases
pub mod Ahead
pub mod Passed
pub mod Offsets
