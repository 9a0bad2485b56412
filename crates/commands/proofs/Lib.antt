-- Laws of the definitions of `specs/`.
pub mod Decoding
pub mod Storing
pub mod Listing
pub mod ReadBack
pub mod Unique
