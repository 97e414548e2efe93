-- What units are marked with before a set comes into force.
pub mod Marks
-- What workers are handed, once it is done.
pub mod Jobs
