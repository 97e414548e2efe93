-- The totals of the 16 scenarios after a change of one net.
pub mod TotalsLemmas
