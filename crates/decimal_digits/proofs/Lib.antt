-- Digits in a text, the number that they stand for, and what is kept of it.
pub mod Values
pub mod Places
pub mod Holding
pub mod Capping
pub mod Lanes
pub mod Taking
