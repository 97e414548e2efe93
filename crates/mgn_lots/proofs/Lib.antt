-- For finding a lot by its number, and for what lots come to.
pub mod Rising
pub mod Shares
