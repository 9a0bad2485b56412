-- What the contracts of this crate cite. Definitions only.
pub mod Scan
pub mod Bytes
pub mod Runs
pub mod Numbers
