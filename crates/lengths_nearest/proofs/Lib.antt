-- Why a length is the nearest to the nearest root, and the only one.
pub mod Kept
