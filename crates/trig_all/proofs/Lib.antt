-- The loops that fill rows in, the angles that steps are taken for, and how large the sums are.
pub mod Rows
pub mod Stepped
pub mod Sizes
pub mod Sides
