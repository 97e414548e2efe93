-- Statements by the rows of margin units.
pub mod Statement
