-- Demand 3. Read Theorems.antt first: the five statements. Steady.antt has the reason, Division.antt that the lookup fits it; Variants.antt, Contraction.antt,
-- Kept.antt, Above.antt and Witnesses.antt settle what else fits it and what does not (docs/ORDER.md).
pub mod Joins
pub mod Steady
pub mod Division
pub mod Targets
pub mod Ends
pub mod Spots
pub mod Theorems
pub mod Swept
pub mod Fused
pub mod Above
pub mod Variants
pub mod Contraction
pub mod Kept
mod Witnesses
