pub mod Phases
pub mod World
pub mod Claims
pub mod Standing
pub mod Worlds
pub mod Units
pub mod DeskMoves
pub mod Decisions
