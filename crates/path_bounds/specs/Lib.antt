-- Points near the origin.
pub mod Calm
