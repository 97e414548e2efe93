-- Why a file that is read is the set, or has the first fault, that the definitions say.
pub mod RecordLemmas
pub mod LineLemmas
pub mod FileLemmas
pub mod PlainLemmas
pub mod LegLemmas
pub mod RowLemmas
pub mod ReadLemmas
pub mod NumberLemmas
pub mod BodyLemmas
pub mod ScanLemmas
pub mod BareLemmas
