-- What building a path answers, and what it leaves in the five buffers. Definitions only.
pub mod Lists
pub mod Answers
pub mod Paths
pub mod Plain
pub mod Letters
