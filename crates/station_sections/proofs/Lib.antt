-- The laws of the definitions of `specs/`.
pub mod LinesTo
pub mod Ordering
