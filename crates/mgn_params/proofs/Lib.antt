-- For pushes into a set, for places by name, and for `==` on rows.
pub mod LimitsLemmas
pub mod NameLemmas
pub mod RowGrowth
pub mod Shelved
pub mod NamingLemmas
pub mod RowEquality
