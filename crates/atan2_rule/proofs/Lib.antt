-- The laws of atan2, from the steps' sums up to the rule.
pub mod Sides
pub mod Fixed
pub mod Search
pub mod Regions
pub mod Fallback
pub mod Exact
pub mod Pointed
pub mod Sizes
pub mod Tiny
pub mod Quotient
pub mod Whole
pub mod Answers
pub mod Meets
pub mod Readings
