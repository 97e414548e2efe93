-- How credits are kept.
pub mod Sizes
pub mod Columns
pub mod Rows
pub mod Shares
pub mod Told
pub mod Quiet
pub mod Credited
pub mod CreditRows
pub mod Gathered
