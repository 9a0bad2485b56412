-- Laws of the grammar: of its combinators, of numbers and separators by the places that crate `scan` finds, what document 01 says of whole texts, and
-- that what parts the editions is what SVG 2 writes.
pub mod SpanLaws
pub mod Numbers
pub mod Separators
pub mod Theorems
pub mod Editions
