-- What paths and shapes give to C.
pub mod StoredPaths
pub mod Morphs
pub mod Paths
pub mod Batches
pub mod Received
pub mod Listings
