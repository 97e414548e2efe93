-- Words of the laws of the world.
pub mod Moves
pub mod Entries
pub mod Calls
pub mod Ways
pub mod Example
