-- What a length is, beside its definition by operations. Definitions only.
pub mod Kept
