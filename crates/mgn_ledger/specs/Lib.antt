-- A book that sessions share, seen from under its lock.
pub mod Ledgers
pub mod Passes
