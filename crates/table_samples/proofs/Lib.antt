-- The laws of sampling: the steps, and when a table is sound.
pub mod Steps
pub mod Made
