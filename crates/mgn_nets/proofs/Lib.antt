-- Why nets in pages are the list of quantities that contracts see.
pub mod Filling
pub mod Paged
pub mod PageSetBits
pub mod Places
