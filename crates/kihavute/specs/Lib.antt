-- What the C interface gives besides the definitions of the crates below.
pub mod Pair
pub mod Kept
pub mod Lookups
pub mod Decimals
pub mod StrictReading
