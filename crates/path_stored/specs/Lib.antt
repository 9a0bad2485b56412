-- The stored path: its layout, its check and what it answers. Definitions only.
pub mod Buffers
pub mod Paths
pub mod Layout
pub mod Stored
pub mod Counts
pub mod Near
pub mod Queries
