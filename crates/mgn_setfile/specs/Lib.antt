-- What the files of parameter sets say.
pub mod Fields
pub mod Records
pub mod Lines
pub mod File
pub mod Inside
pub mod Plain
pub mod Words
