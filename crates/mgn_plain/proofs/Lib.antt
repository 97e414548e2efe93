-- Why the calculation from scratch is that of the definitions.
pub mod CreditLemmas
pub mod DeltaLemmas
pub mod PartLemmas
pub mod PassLemmas
pub mod FlatLemmas
