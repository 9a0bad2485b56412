-- The laws of the definitions of `specs/`.
pub mod Asking
pub mod Cut
pub mod Flying
pub mod Lent
pub mod Printing
pub mod Telling
pub mod Texts
pub mod Unique
pub mod Ordering
