-- What the contracts of sessions cite.
pub mod Device
pub mod Conversation
pub mod Session
pub mod SessionInside
