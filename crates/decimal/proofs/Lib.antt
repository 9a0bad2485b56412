-- The laws of a decimal value, way by way, and what the document says of it.
pub mod Answered
pub mod Quotients
pub mod Narrowed
pub mod Ranged
pub mod Capped
pub mod Sided
pub mod Scaled
pub mod Valued
pub mod Found
pub mod Said
mod Readings
pub mod Quickly
