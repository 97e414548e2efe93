-- What the register owes at each change, and what it keeps.
pub mod Answered
pub mod Busts
pub mod Following
pub mod Found
pub mod Foreseen
pub mod Holding
pub mod Kept
pub mod Moving
pub mod Opened
pub mod Possible
pub mod Postings
pub mod Switches
pub mod Trades
