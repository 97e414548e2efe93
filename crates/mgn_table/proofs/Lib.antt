-- For the tokens of a table.
pub mod Pushed
