-- What the contracts of this crate cite. Definitions only.
pub mod Stations
pub mod Ordered
