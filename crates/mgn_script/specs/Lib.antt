-- What the contracts of scripts cite.
pub mod Desks
pub mod Plain
pub mod Script
