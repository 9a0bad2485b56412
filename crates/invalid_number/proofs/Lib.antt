-- 4 is an exponent without a digit: of a group of any kind, of a text, and of what the reader, `kihavute_number`, building from a text and the station tool give.
pub mod Groups
pub mod Steps
pub mod Entries
pub mod Builds
