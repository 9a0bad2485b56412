-- What a call that fills a lent output gives.
pub mod Filling
