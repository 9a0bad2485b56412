-- Laws of the definitions of `specs/`.
pub mod Texts
pub mod Offsets
pub mod PassLaws
pub mod Holding
pub mod Passing
pub mod Answering
pub mod Unique
pub mod ReadBack
pub mod Readings
pub mod Smooth
pub mod Told
pub mod Copying
