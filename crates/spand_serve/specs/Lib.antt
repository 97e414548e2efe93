-- What a server did.
pub mod Served
