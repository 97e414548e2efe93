-- What one field of a record says (own format).
use Rattle.std.specs.Prelude.{ℕ, ◌==◌, if◌then◌else◌, List, Option, Some, None, ℤ, Result, Ok, Err, codes, Bool}
use Rattle.std.specs.Str.{bytes_eq}
use Rattle.mgn_ids.specs.Name.{name_in}
use Rattle.mgn_ids.specs.declared.fault.IdFault.{IdFault}
use Rattle.mgn_ids.specs.declared.fault.IdFault.TheVariants as id
use Rattle.mgn_num.specs.Reading.{signed_in, unsigned_in}
use Rattle.mgn_num.specs.declared.reading.NumFault.{NumFault}
use Rattle.mgn_num.specs.declared.reading.NumFault.TheVariants as num
use Rattle.mgn_setfile.specs.declared.fault.Cause.{Cause}
use Rattle.mgn_setfile.specs.declared.fault.Cause.TheVariants.{Name, Number, Range, Unknown, Double, Limit}
use Rattle.mgn_setfile.specs.declared.fault.RecordFault.{RecordFault}
use Rattle.mgn_setfile.specs.declared.place.Field.{Field}
use Rattle.mgn_params.specs.declared.tables.Kind.{Kind}
use Rattle.mgn_params.specs.declared.tables.Kind.TheVariants.{Future, Call, Put}
use Rattle.mgn_params.specs.declared.tables.LegSide.{LegSide}
use Rattle.mgn_params.specs.declared.tables.LegSide.TheVariants.{A, B}
use Rattle.mgn_params.specs.declared.tables.Style.{Style}
use Rattle.mgn_params.specs.declared.tables.Style.TheVariants.{Premium, Other}

-- a record is its fields, and a field its bytes
abbrev pub Fields : Type 0
Fields = List (List ℕ)

-- What is wrong with a record: a cause, and the field that has it, where it is one field's alone.
abbrev pub Flaw : Type 0
Flaw = RecordFault

abbrev pub at : Field → Cause → Flaw
at field cause = record { field = Some field; cause = cause }

abbrev pub whole : Cause → Flaw
whole cause = record { field = None; cause = cause }

-- what a field says, or its fault
unfoldable pub in_field : {A : Type 0} → Field → Result A Cause → Result A Flaw
in_field field (Ok x) = Ok x
in_field field (Err cause) = Err (at field cause)

-- one test after another: the first fault found is the record's
infixl 10 ◌>>=◌
abbrev pub ◌>>=◌ : {A B : Type 0} → Result A Flaw → (A → Result B Flaw) → Result B Flaw
(Ok x) >>= f = f x
(Err e) >>= f = Err e

abbrev pub name_cause : Result (List ℕ) IdFault → Result (List ℕ) Cause
name_cause (Ok name) = Ok name
name_cause (Err id.Syntax) = Err Name
name_cause (Err id.Range) = Err Range

-- a name
unfoldable pub field_name : List ℕ → Result (List ℕ) Cause
field_name word = name_cause (name_in word)

abbrev pub number_cause : {A : Type 0} → Result A NumFault → Result A Cause
number_cause (Ok n) = Ok n
number_cause (Err num.Syntax) = Err Number
number_cause (Err num.Range) = Err Range

-- a number from `low` to `high`
unfoldable pub field_number : ℕ → ℕ → List ℕ → Result ℕ Cause
field_number low high word = number_cause (unsigned_in low high word)

-- a number of at most `high` in size
unfoldable pub field_signed : ℕ → List ℕ → Result ℤ Cause
field_signed high word = number_cause (signed_in high word)

-- what a contract is: F, C or P
unfoldable pub field_kind : List ℕ → Result Kind Cause
field_kind word =
    if bytes_eq word (codes "F") then Ok Future
    else (if bytes_eq word (codes "C") then Ok Call else (if bytes_eq word (codes "P") then Ok Put else Err Name))

-- a style: P or F; a future has style F
abbrev pub style_of_kind : Kind → Result Style Cause
style_of_kind Future = Err Range
style_of_kind Call = Ok Premium
style_of_kind Put = Ok Premium

unfoldable pub field_style : Kind → List ℕ → Result Style Cause
field_style kind word =
    if bytes_eq word (codes "P") then style_of_kind kind else (if bytes_eq word (codes "F") then Ok Other else Err Name)

-- a market value; of style F it is 0
abbrev pub value_of_style : Style → ℕ → Result ℕ Cause
value_of_style Premium n = Ok n
value_of_style Other n = if n == 0 then Ok 0 else Err Range

-- a side of an intercommodity spread: A or B
unfoldable pub field_side : List ℕ → Result LegSide Cause
field_side word = if bytes_eq word (codes "A") then Ok A else (if bytes_eq word (codes "B") then Ok B else Err Name)

-- what earlier records give by a field
abbrev pub known : {A : Type 0} → Field → Option A → Result A Flaw
known field None = Err (at field Unknown)
known field (Some x) = Ok x

-- a row, where its table has room
abbrev pub roomy : {A : Type 0} → Bool → A → Result A Flaw
roomy full row = if full then Err (whole Limit) else Ok row

-- a row that no earlier record gives, by the field that names it, where its table has room
abbrev pub fresh : {A : Type 0} → Field → Bool → Bool → A → Result A Flaw
fresh field double full row = if double then Err (at field Double) else roomy full row
