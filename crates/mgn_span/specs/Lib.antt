-- The margin calculation over the tables of a set.
pub mod Positions
pub mod Scan
pub mod Deltas
pub mod MonthDeltas
pub mod Stages
pub mod Credits
pub mod Options
pub mod Spot
pub mod Requirement
pub mod Sizes
pub mod Words
