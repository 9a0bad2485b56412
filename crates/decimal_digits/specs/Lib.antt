-- What the contracts of this crate cite. Definitions only.
pub mod Digits
pub mod Leading
pub mod Exponent
pub mod Words
