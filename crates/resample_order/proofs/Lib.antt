-- A resampled line stands in order. Read Entry.antt first: the statement over what `resample` writes, by that over its contract (Theorems.antt). Targets.antt and Shares.antt have what a target is and how the share
-- of a leg grows with it.
pub mod Targets
pub mod Shares
pub mod Theorems
pub mod Entry
