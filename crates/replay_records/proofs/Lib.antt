-- The laws of a record's digits and patterns, and of its rows.
pub mod Digits
pub mod Rows
