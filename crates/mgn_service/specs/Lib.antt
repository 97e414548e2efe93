-- Sessions that share a book.
pub mod Commits
pub mod Pairs
