-- Laws of readers of one argument: of its first word and the rest, of what it starts with, and that it has a byte.
pub mod Steps
pub mod Starts
