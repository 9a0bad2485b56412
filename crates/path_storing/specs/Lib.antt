-- One command at a site. Definitions only.
pub mod Sites
pub mod Tallies
