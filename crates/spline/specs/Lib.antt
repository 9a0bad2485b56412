-- What a Catmull-Rom spline gives.
pub mod Formula
