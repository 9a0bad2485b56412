-- A text that matches the grammar of an edition is read by the permissive reader.
pub mod Follows
pub mod Groups
pub mod Passes
pub mod Theorem
