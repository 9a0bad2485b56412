-- What a stored spline gives, and that it is given in order.
pub mod Queries
pub mod Ordered
