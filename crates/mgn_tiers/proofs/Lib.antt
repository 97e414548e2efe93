-- Why the kept rows of deltas, net deltas and runs are those of the definitions.
pub mod PartLemmas
pub mod StartLemmas
pub mod TierLemmas
