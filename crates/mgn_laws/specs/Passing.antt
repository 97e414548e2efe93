-- The records of a file, each against the records before it.
use Rattle.std.specs.Prelude.{◌≡◌, ◌⊎◌, ℕ, ◌+◌, ◌<◌, List, length, slice_index_or, take, Option, None, IsOk, Err}
use Rattle.std.specs.List.{fold}
use Rattle.std.specs.Result.{result_ok}
use Rattle.mgn_setfile.specs.declared.fault.Cause.TheVariants.{Header}
use Rattle.mgn_setfile.specs.Fields.{Flaw, whole}
use Rattle.mgn_setfile.specs.File.{Record, SoFar, judged}

-- the record at a place, from 0
abbrev pub record_at : List Record → ℕ → Record
record_at records k = slice_index_or records k None

-- what a list of records gives, where each passes: version and tables
abbrev pub given : Option SoFar → Record → Option SoFar
given before r = result_ok (judged before r)

abbrev pub given_by : List Record → Option SoFar
given_by records = fold given None records

-- the record at a place passes its tests against what the records before it give
abbrev pub Passes : List Record → ℕ → Type 0
Passes records k = IsOk (judged (given_by (take k records)) (record_at records k))

-- there is a record, and each passes
pub record IsAccepted (records : List Record) : Type 0 where
  pub some : 0 < length records
  pub each : (k : ℕ) → k < length records → Passes records k

-- the record at a place is the first that does not pass, with its first fault
pub record IsRefusedAt (records : List Record) (k : ℕ) (fault : Flaw) : Type 0 where
  pub there : k < length records
  pub earlier : (j : ℕ) → j < k → Passes records j
  pub refused : judged (given_by (take k records)) (record_at records k) ≡ Err fault

-- the number of that record, from 1, with its fault; or there is no record
abbrev pub IsFault : List Record → ℕ → Flaw → Type 0
IsFault records number fault =
    ((length records ≡ 0) × (number ≡ 1) × (fault ≡ whole Header)) ⊎ ((k : ℕ) × (number ≡ k + 1) × IsRefusedAt records k fault)
