-- What the contracts of the server cite.
pub mod Served
pub mod Places
