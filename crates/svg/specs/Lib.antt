-- What the contracts of this crate cite. Definitions only.
pub mod Lists
pub mod Texts
pub mod Readings
pub mod Smooth
pub mod Told
