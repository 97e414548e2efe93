-- For entries, passes and the audit of a ledger.
pub mod Apart
pub mod Entries
pub mod Seen
