-- What a plan leaves of nets, for desks and rows that follow it.
pub mod Nets
