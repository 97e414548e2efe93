-- How the rows of a calculation are kept.
pub mod Figures
pub mod Kept
pub mod Months
pub mod Parts
pub mod Scans
pub mod Sums
