-- The totals of the scenarios that are kept, and whose they are.
pub mod Totals
