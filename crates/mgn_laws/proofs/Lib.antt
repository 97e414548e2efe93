-- Lemmas of the laws of the calculation and of sets' files.
pub mod AbsentCredits
pub mod AbsentLemmas
pub mod CreditLemmas
pub mod CreditSums
pub mod GrowthLemmas
pub mod PassingLemmas
pub mod RequirementLemmas
pub mod StageLemmas
pub mod NegatedLemmas
pub mod WithoutLemmas
