-- Laws of appending.
pub mod InUse
pub mod Added
