-- For what a day's entries leave of the nets of units.
pub mod Gathers
pub mod PlaceFacts
