-- For desks that move with rows and are given with a command.
pub mod Moved
-- Desks by the numbers of their units.
pub mod Numbered
-- Desks that are given with a command.
pub mod Fitting
-- Desks that move as a plan says.
pub mod Planned
-- Desks that are marked anew.
pub mod Marked
