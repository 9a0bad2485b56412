-- What a caller receives meets the documents: batches, a flight beside its segment's own queries, a spline's flight, the stations of a listing.
pub mod Batches
pub mod Segments
pub mod Splines
pub mod Stations
