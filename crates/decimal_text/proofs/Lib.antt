-- The scan passes only text that converts, the longest, and an e without a digit is what it refuses as 4.
pub mod Grammars
pub mod Scanned
pub mod Bare
mod Readings
