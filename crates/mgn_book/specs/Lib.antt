-- The book: the state with its rows, and the history that made it.
pub mod BookViews
pub mod DeskCommits
pub mod FilledAtLimit
pub mod History
pub mod Replies
pub mod Switches
