-- The table of powers of ten, and what its entries are.
pub mod Matched
pub mod Entries
