-- For adding, finding, lessening and releasing holds.
pub mod Costs
pub mod Orders
pub mod Rising
