-- What reading a set by its name gives.
use Rattle.std.specs.Prelude.{◌≡◌, ◌⊎◌, ℕ, List, Some, Result, Ok, Err}
use Rattle.mgn_ids.specs.declared.fault.IdFault.{IdFault}
use Rattle.mgn_session.specs.Session.{Fetch}
use Rattle.mgn_session.specs.declared.source.SourceFault.{SourceFault}
use Rattle.mgn_setfile.specs.declared.draft.SetFile.{SetFile}
use Rattle.mgn_setfile.specs.declared.fault.SetFault.{SetFault}
use Rattle.mgn_setfile.specs.File.{fault_in, line_of_record, outcome, records_of, version_told}
use Rattle.mgn_setfile.specs.Words.{detail_of, numbered_record}
use Rattle.spand_lib.specs.declared.fault.Fault.{Fault}
use Rattle.spand_lib.specs.declared.fault.Fault.TheVariants.{BadSet, NoSet, Memory}
use Rattle.spand_lib.specs.Status.{of_source}

-- these bytes are the file of the set, or this is their first fault
abbrev pub IsFileOf : List ℕ → SetFile → Type 0
IsFileOf bytes file = (outcome (records_of bytes) ≡ Ok file.set) × (version_told (records_of bytes) ≡ Some file.version)

abbrev pub IsFaultOf : List ℕ → SetFault → Type 0
IsFaultOf bytes e =
    (outcome (records_of bytes) ≡ Err (e.number, fault_in e)) × (e.line ≡ line_of_record bytes e.number)
    × (e.detail ≡ detail_of (numbered_record (records_of bytes) e.number) (fault_in e))

-- what the bytes of a file give, unless memory was refused
abbrev pub IsReadOf : List ℕ → Result SetFile Fault → Type 0
IsReadOf bytes (Ok file) = IsFileOf bytes file
IsReadOf bytes (Err (BadSet e)) = IsFaultOf bytes e
IsReadOf bytes (Err Memory) = Unit {0}
IsReadOf bytes (Err _) = ⊥

-- the source gave the file of that name, which is what was read, or it gave none
abbrev pub Reads : {S : Type 0} → Fetch S → S → List ℕ → Result SetFile Fault → S → Type 0
Reads gives old name result new =
    ((bytes : List ℕ) × gives old name (Ok bytes) new × IsReadOf bytes result)
    ⊎ ((fault : SourceFault) × gives old name (Err fault) new × (result ≡ Err (of_source fault)))

-- a word that is no name is the name of no set, and nothing is asked for
abbrev pub ReadsNamed : {S : Type 0} → Fetch S → S → Result (List ℕ) IdFault → Result SetFile Fault → S → Type 0
ReadsNamed gives old (Ok name) result new = Reads gives old name result new
ReadsNamed gives old (Err fault) result new = (result ≡ Err NoSet) × (new ≡ old)
