-- Rows and pages, as they are kept and as they are read.
pub mod Rows
pub mod Pages
