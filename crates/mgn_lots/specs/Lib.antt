pub mod Lots
pub mod LotList
pub mod Kept
