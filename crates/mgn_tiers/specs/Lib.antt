-- How stages and deltas are kept.
pub mod Runs
pub mod Tiers
pub mod TierRows
