-- What a text builds. Definitions only.
pub mod Builds
