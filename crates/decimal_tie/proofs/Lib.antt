-- Words, and digits against them.
pub mod Wides
pub mod Sixes
pub mod Against
pub mod Parts
pub mod Weighed
