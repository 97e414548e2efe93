-- For commits, switches and the stored history of a book.
pub mod Begun
pub mod FilledAtLimit
pub mod Histories
pub mod StoredEntries
pub mod Switches
