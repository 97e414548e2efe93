-- Why a script is a run of the machine.
pub mod DeskCommits
pub mod DeskFacts
pub mod PlainFacts
pub mod ScriptFacts
pub mod SwitchFacts
