-- Laws of histories and steps, for books, ledgers and the world of sessions.
pub mod Histories
pub mod Items
pub mod Names
pub mod StoredLines
pub mod Versions
