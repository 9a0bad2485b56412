-- The cases of a heading.
pub mod Heading
