-- What strict reading promises. Definitions only.
pub mod Commands
pub mod Verdicts
