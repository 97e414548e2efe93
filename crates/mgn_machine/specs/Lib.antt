-- The definitions of the machine of one thread.
pub mod State
pub mod Portfolios
pub mod Room
pub mod Refusals
pub mod Holding
pub mod Transfers
pub mod NewSet
pub mod Totals
pub mod Step
pub mod Brief
pub mod StoredLines
pub mod Statements
pub mod History
