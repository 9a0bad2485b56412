-- What a segment gives at its raw parameter.
pub mod Headings
