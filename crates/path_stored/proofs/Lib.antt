-- Laws of the stored path.
pub mod Buffers
pub mod Counting
pub mod Spans
pub mod Lanes
pub mod Testing
pub mod Rule
pub mod Reading
pub mod Extending
pub mod Values
