-- What the contracts of this crate cite. Definitions only.
pub mod Decimal
pub mod Bits
