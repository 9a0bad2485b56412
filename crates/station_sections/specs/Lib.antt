-- What the contracts of this crate cite. Definitions only.
pub mod Sections
pub mod Ordered
