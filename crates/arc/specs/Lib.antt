-- What lines and arcs give.
pub mod Lines
pub mod Arcs
pub mod Rows
