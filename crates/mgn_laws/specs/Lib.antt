-- Words of the laws.
pub mod Worst
pub mod Turns
pub mod Negated
pub mod Uses
pub mod Absent
pub mod Passing
pub mod Growth
