pub mod Holds
pub mod Kept
