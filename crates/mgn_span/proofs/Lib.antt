-- Laws of the definitions, for both ways of the calculation and for the laws about it, and worked examples.
pub mod Examples
pub mod ProductLemmas
pub mod FlatLemmas
pub mod PositionLemmas
pub mod SumLemmas
pub mod DeltaLemmas
pub mod ShareLemmas
pub mod ActiveLemmas
pub mod ScanLemmas
pub mod StageLemmas
pub mod CreditLemmas
pub mod StageSteps
pub mod SpreadLemmas
pub mod MonthDeltaLemmas
