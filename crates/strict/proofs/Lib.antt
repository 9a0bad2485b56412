-- Laws of strict reading: of sequences of arguments, of commands by their letters, of a text laid flat, and of the verdict.
pub mod Sequences
pub mod Letters
pub mod CommandLaws
pub mod Rests
pub mod VerdictLaws
