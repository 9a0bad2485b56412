-- Laws of the definitions of `specs/`.
pub mod Layouts
pub mod Judged
pub mod Along
pub mod Filling
pub mod Tallying
pub mod ArcTallying
pub mod Foreseen
