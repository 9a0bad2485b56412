-- What the theorems on what a caller receives speak of. Definitions only.
pub mod Stations
