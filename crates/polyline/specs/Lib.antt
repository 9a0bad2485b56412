-- Points in a list of numbers, the running lengths of the line through them, and how a list is judged.
pub mod Points
pub mod Lengths
pub mod Judging
