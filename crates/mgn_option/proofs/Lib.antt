-- The sums of options after a change of one net.
pub mod SumsLemmas
