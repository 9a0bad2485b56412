-- What making a spline's table answers and stores.
pub mod Tables
pub mod Near
pub mod Rows
