-- Why a session answers each of its lines once and in order, whatever its devices do.
pub mod ByteFacts
pub mod DeviceFacts
pub mod LineFacts
pub mod RunFacts
pub mod Seen
