-- What the contracts of lines and replies cite.
pub mod Word
pub mod Line
pub mod Fields
pub mod StatementText
pub mod Text
pub mod Room
