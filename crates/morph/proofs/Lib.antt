-- The laws of a morph: the points that both shapes have, how many numbers the shape between has, what two planned shapes come to, and what the answers settle.
pub mod Sharing
pub mod Filling
pub mod Widening
pub mod Answers
pub mod Unique
