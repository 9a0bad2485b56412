-- What it is to be the nearest value of a decimal text, and the exact value of such a text. Definitions only.
pub mod Nearest
pub mod Parts
