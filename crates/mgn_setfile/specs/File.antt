-- The set of a file: the tables of its records in file order, or its first faulty record with its first fault (own format).
use Rattle.std.specs.Prelude.{◌≡◌, ◌⊎◌, ℕ, ◌+◌, ◌-◌, ◌==◌, if◌then◌else◌, List, [], ◌∷◌, ◌++◌, Option, Some, None, Result, Ok, Err, codes, map, slice_index_or}
use Rattle.std.specs.List.{flat_map, slice_split}
use Rattle.std.specs.Str.{bytes_eq}
use Rattle.mgn_setfile.specs.declared.draft.Draft.{Draft}
use Rattle.mgn_setfile.specs.declared.draft.SetFile.{SetFile}
use Rattle.mgn_setfile.specs.declared.fault.Cause.{Cause}
use Rattle.mgn_setfile.specs.declared.fault.Cause.TheVariants.{Header, Fields as WrongFields, Memory}
use Rattle.mgn_setfile.specs.declared.fault.SetFault.{SetFault}
use Rattle.mgn_setfile.specs.declared.place.Field.TheVariants as field
use Rattle.mgn_setfile.specs.Fields.{◌>>=◌, Fields, Flaw, at, field_name, in_field, whole}
use Rattle.mgn_setfile.specs.Lines.{line_records}
use Rattle.mgn_setfile.specs.Records.{class_of, commodity_of, contract_of, credit_of, month_of, spot_charge_of_record, spread_of}
use Rattle.mgn_params.specs.Tables.{Tables, no_tables}

-- The records of a file: one for each line that has one. None is a line that has more.
abbrev pub Record : Type 0
Record = Option Fields

abbrev pub record_of : List Fields → List Record
record_of [] = []
record_of (fields ∷ []) = Some fields ∷ []
record_of (fields ∷ other ∷ more) = None ∷ []

unfoldable pub record_of_line : List ℕ → List Record
record_of_line line = record_of (line_records line)

abbrev pub records_of : List ℕ → List Record
records_of file = flat_map record_of_line (slice_split (λ b. b == 10) file)

-- What each kind of record adds to the tables so far.

unfoldable pub with_commodity : Tables → Fields → Result Tables Flaw
with_commodity t fields = do
  row ← commodity_of t fields
  Ok (record t { commodities = t.commodities ++ row ∷ [] })

unfoldable pub with_month : Tables → Fields → Result Tables Flaw
with_month t fields = do
  row ← month_of t fields
  Ok (record t { months = t.months ++ row ∷ [] })

unfoldable pub with_contract : Tables → Fields → Result Tables Flaw
with_contract t fields = do
  row ← contract_of t fields
  Ok (record t { contracts = t.contracts ++ row ∷ [] })

unfoldable pub with_spread : Tables → Fields → Result Tables Flaw
with_spread t fields = do
  row ← spread_of t fields
  Ok (record t { spreads = t.spreads ++ row ∷ [] })

unfoldable pub with_credit_spread : Tables → Fields → Result Tables Flaw
with_credit_spread t fields = do
  row ← credit_of t fields
  Ok (record t { credits = t.credits ++ row ∷ [] })

unfoldable pub with_class : Tables → Fields → Result Tables Flaw
with_class t fields = do
  row ← class_of t fields
  Ok (record t { classes = t.classes ++ row ∷ [] })

unfoldable pub with_spot : Tables → Fields → Result Tables Flaw
with_spot t fields = do
  row ← spot_charge_of_record t fields
  Ok (record t { spots = t.spots ++ row ∷ [] })

-- a spot charge is a record of version 2 alone
unfoldable pub with_spot_of : ℕ → Tables → Fields → Result Tables Flaw
with_spot_of version t fields = if version == 2 then with_spot t fields else Err (at field.Kind WrongFields)

-- a record after the first, by its first field
unfoldable pub with_other : ℕ → Tables → List ℕ → Fields → Result Tables Flaw
with_other version t kind fields =
    if bytes_eq kind (codes "I") then with_credit_spread t fields
    else (if bytes_eq kind (codes "V") then with_class t fields
    else (if bytes_eq kind (codes "T") then with_spot_of version t fields
    else (if bytes_eq kind (codes "H") then Err (whole Header) else Err (at field.Kind WrongFields))))

unfoldable pub with_record : ℕ → Tables → List ℕ → Fields → Result Tables Flaw
with_record version t kind fields =
    if bytes_eq kind (codes "G") then with_commodity t fields
    else (if bytes_eq kind (codes "M") then with_month t fields
    else (if bytes_eq kind (codes "K") then with_contract t fields
    else (if bytes_eq kind (codes "S") then with_spread t fields else with_other version t kind fields)))

unfoldable pub later_of : ℕ → Tables → Fields → Result Tables Flaw
later_of version t [] = Err (whole WrongFields)
later_of version t (kind ∷ fields) = with_record version t kind fields

-- the first record: `H,1,name` or `H,2,name`
unfoldable pub version_of : List ℕ → Result ℕ Cause
version_of word = if bytes_eq word (codes "1") then Ok 1 else (if bytes_eq word (codes "2") then Ok 2 else Err Header)

unfoldable pub head_from : List ℕ → List ℕ → List ℕ → Result Draft Flaw
head_from kind version name =
    if bytes_eq kind (codes "H") then (do
      v ← in_field (field.Header 2) (version_of version)
      n ← in_field (field.Header 3) (field_name name)
      Ok (record { version = v; set = no_tables n })) else Err (whole Header)

unfoldable pub head_of : Fields → Result Draft Flaw
head_of (kind ∷ version ∷ name ∷ []) = head_from kind version name
head_of _ = Err (whole Header)

-- what the records so far give: the version of the file, and the tables
abbrev pub SoFar : Type 0
SoFar = Draft

-- a record after those that gave this much, or as the first
abbrev pub drafted : ℕ → Result Tables Flaw → Result Draft Flaw
drafted version (Ok t) = Ok (record { version = version; set = t })
drafted version (Err e) = Err e

unfoldable pub judged : Option Draft → Record → Result Draft Flaw
judged before None = Err (whole WrongFields)
judged None (Some fields) = head_of fields
judged (Some draft) (Some fields) = drafted draft.version (later_of draft.version draft.set fields)

-- what the records from a place on give, after the ones before gave this much
abbrev pub goes_on : Result Draft Flaw → (Draft → Result Tables (ℕ × Flaw)) → ℕ → Result Tables (ℕ × Flaw)
goes_on (Ok draft) f number = f draft
goes_on (Err fault) f number = Err (number, fault)

abbrev pub told : List Record → ℕ → Option Draft → Result Tables (ℕ × Flaw)
told [] count None = Err (1, whole Header)
told [] count (Some draft) = Ok draft.set
told (r ∷ rs) count before = goes_on (judged before r) (λ draft. told rs (count + 1) (Some draft)) (count + 1)

-- the set of a list of records, or the number of the first faulty one with its fault
unfoldable pub outcome : List Record → Result Tables (ℕ × Flaw)
outcome records = told records 0 None

-- the version that a header gives
abbrev pub version_by : Result Draft Flaw → Option ℕ
version_by (Ok draft) = Some draft.version
version_by (Err fault) = None

-- the version of a list of records: that of the records before, or that of the first, which is the header
abbrev pub version_left : List Record → Option Draft → Option ℕ
version_left records (Some draft) = Some draft.version
version_left [] None = None
version_left (r ∷ rs) None = version_by (judged None r)

abbrev pub version_told : List Record → Option ℕ
version_told records = version_left records None

-- what is wrong with the record of a fault
abbrev pub fault_in : SetFault → Flaw
fault_in e = record { field = e.field; cause = e.cause }

-- the set is the file's, or the fault is the file's first, unless a growth was refused
abbrev pub Tells : Result Tables SetFault → Result Tables (ℕ × Flaw) → Type 0
Tells (Ok set) want = want ≡ Ok set
Tells (Err e) want = (e.cause ≡ Memory) ⊎ (want ≡ Err (e.number, fault_in e))

abbrev pub TellsFile : Result SetFile SetFault → Result Tables (ℕ × Flaw) → Type 0
TellsFile (Ok file) want = want ≡ Ok file.set
TellsFile (Err e) want = (e.cause ≡ Memory) ⊎ (want ≡ Err (e.number, fault_in e))

-- The numbers of the lines that have a record, from 1, after so many lines.
abbrev pub numbered : ℕ → List (List ℕ) → List ℕ
numbered before [] = []
numbered before (line ∷ lines) = map (λ _. before + 1) (record_of_line line) ++ numbered (before + 1) lines

-- where the record of a number stands; where there is no record it is line 1
abbrev pub line_of_record : List ℕ → ℕ → ℕ
line_of_record file number = slice_index_or (numbered 0 (slice_split (λ b. b == 10) file)) (number - 1) 1
