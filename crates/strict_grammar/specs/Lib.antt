-- The grammar of path data. Definitions only.
pub mod Spans
pub mod Grammar
pub mod Words
