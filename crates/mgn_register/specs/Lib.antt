-- The state with its rows, and what commands do to them.
pub mod BookStates
pub mod Balances
pub mod RoomAsked
pub mod TransferRows
pub mod Fits
pub mod UnderSets
