-- The laws of what is given through C.
pub mod NumberGiven
pub mod StrictGiven
pub mod Keeping
