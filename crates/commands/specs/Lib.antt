-- What the contracts of this crate cite. Definitions only.
pub mod Stored
pub mod Listed
pub mod Checked
