-- How the answer at a progress leaves through C.
pub mod Flights
