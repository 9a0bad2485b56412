-- What curves give to C.
pub mod Lone
pub mod CurveTables
pub mod Arcs
pub mod Splines
pub mod Received
