-- What commands draw, and what a list of them builds. Definitions only.
pub mod Drawing
pub mod Building
