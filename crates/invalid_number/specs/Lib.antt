-- What a refusal says of the text. Definitions only.
pub mod Cause
