-- Why the kept credits between commodities are those of the definitions.
pub mod ColumnLemmas
pub mod LegLemmas
pub mod GatherLemmas
pub mod SpreadLemmas
pub mod StateLemmas
pub mod TurnLemmas
pub mod ReworkedLemmas
pub mod ToldLemmas
pub mod PlacesLemmas
pub mod QuietLemmas
