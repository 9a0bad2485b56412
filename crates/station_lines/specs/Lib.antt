-- What the contracts of this crate cite. Definitions only.
pub mod Put
pub mod Numbers
pub mod Lines
