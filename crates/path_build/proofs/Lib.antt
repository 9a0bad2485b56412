-- Laws of the definitions of `specs/`.
pub mod Lists
pub mod Letters
pub mod Along
pub mod Counting
pub mod Answering
pub mod Numbering
pub mod Sound
pub mod Unique
