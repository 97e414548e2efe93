-- The plans of commands.
pub mod Plans
