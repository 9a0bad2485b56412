-- What a segment gives at a progress along itself.
pub mod Parts
