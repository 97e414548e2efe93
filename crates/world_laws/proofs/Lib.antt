-- Lemmas of the laws of sessions side by side.
pub mod Places
pub mod Turning
pub mod Once
pub mod Skipping
pub mod Taking
pub mod Calling
pub mod Committing
pub mod Marking
pub mod Ending
pub mod Filling
pub mod Passing
pub mod Alone
