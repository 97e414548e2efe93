-- For the lists of a statement, and for the statement by a row.
pub mod ByRow
pub mod Lists
