-- The nets that are kept with their option sums.
pub mod Sums
