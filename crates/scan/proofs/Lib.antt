-- Laws of the definitions of `specs/`, which the proofs of this crate and of those above it cite, and worked examples.
pub mod ScanLaws
pub mod ByteLaws
pub mod RunLaws
pub mod NumberLaws
pub mod Readings
