-- The rows of margin units, and what commands change in them.
pub mod Rows
pub mod Changes
pub mod Laws
pub mod NewSets
pub mod Amounts
pub mod Prepared
pub mod Worths
