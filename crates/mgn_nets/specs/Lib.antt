-- Nets, as they are kept and as they are read, and those of the four portfolios of a unit.
pub mod Pages
pub mod PageSets
pub mod Numbers
pub mod Portfolios
