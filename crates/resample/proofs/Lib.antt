-- The laws of evenly spaced points: targets never fall, the walk picks what the definition picks, the rows; plans; and what the entry's equations settle.
pub mod Targets
pub mod Walk
pub mod Stretches
pub mod Plans
pub mod Answering
pub mod Unique
