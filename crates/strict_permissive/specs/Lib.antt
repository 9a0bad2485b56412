-- What it means that a text is read. Definitions only.
pub mod Read
