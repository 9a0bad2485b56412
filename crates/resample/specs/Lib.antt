-- Evenly spaced points of a line: where each lies, what the output gets, and the entry's answer.
pub mod Spacing
pub mod Planning
pub mod Resample
