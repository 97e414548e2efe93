-- Desks beside the rows of margin units.
pub mod Desks
pub mod Given
