-- The marks of all units, by those of each.
pub mod Whole
