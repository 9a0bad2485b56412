-- Cases of the definitions that more than one line of a proof cites.
pub mod Fitting
