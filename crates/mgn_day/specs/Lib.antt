-- What there is of a day, and since when units have their nets.
pub mod Changes
pub mod Copies
pub mod Days
pub mod Gathering
