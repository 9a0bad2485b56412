-- The laws of what paths and shapes give through C.
pub mod Putting
pub mod Standing
pub mod CheckGiven
pub mod PathsGiven
pub mod BatchesGiven
pub mod Receiving
pub mod ListingsGiven
