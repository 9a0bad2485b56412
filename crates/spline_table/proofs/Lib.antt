-- The laws of the two passes.
pub mod Passing
pub mod Finding
pub mod Filling
pub mod Crossing
pub mod RowLaws
pub mod Near
pub mod Left
pub mod Index
pub mod Formulas
pub mod Laying
pub mod Samples
pub mod Calm
pub mod Answering
pub mod Made
pub mod Unique
