-- What stands in a record, and what an answer has in common with it.
pub mod Counts
pub mod Records
pub mod Decimals
pub mod Numbers
pub mod Given
pub mod Curves
