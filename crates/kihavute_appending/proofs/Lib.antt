-- The laws of what appending gives through C.
pub mod AppendingGiven
