-- The texts that convert, and an exponent without a digit. Definitions only.
pub mod Converts
