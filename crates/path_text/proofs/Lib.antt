-- Laws of the definitions of `specs/`.
pub mod Steps
pub mod Entering
pub mod Sound
pub mod Unique
pub mod Readings
