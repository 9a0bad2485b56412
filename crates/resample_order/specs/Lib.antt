-- What the theorems speak of: the leg that an output lies on, how much of it, and points that stand on a line in order.
pub mod Ordered
