-- What the program does with a set's file, and how it ends.
pub mod Reading
pub mod Status
