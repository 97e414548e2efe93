-- The tables of a parameter set, their limits, and the shelf of a day's sets.
pub mod Tables
pub mod Limits
pub mod CommodityRows
pub mod Naming
pub mod Inside
pub mod Shelves
