-- How the fault of a file is told: the words of `spand check`.
use Rattle.std.specs.Prelude.{ℕ, ◌-◌, ◌/◌, ◌%◌, ◌==◌, ◌&&◌, ◌||◌, nat_le, Bool, false, if◌then◌else◌, List, [], ◌∷◌, ◌++◌, length, option_map, Option, Some, None, codes, decimal, slice_index_or}
use Rattle.std.specs.Str.{bytes_eq}
use Rattle.mgn_setfile.specs.declared.fault.Cause.{Cause}
use Rattle.mgn_setfile.specs.declared.fault.Cause.TheVariants.{Header, Fields as WrongFields, Name, Number, Range, Unknown, Double, Limit, Memory}
use Rattle.mgn_setfile.specs.declared.detail.Detail.{Detail}
use Rattle.mgn_setfile.specs.declared.detail.Detail.TheVariants.{Count, Second, NoLeg}
use Rattle.mgn_setfile.specs.declared.detail.RecordKind.{RecordKind}
use Rattle.mgn_setfile.specs.declared.detail.RecordKind.TheVariants as kind
use Rattle.mgn_setfile.specs.declared.fault.SetFault.{SetFault}
use Rattle.mgn_setfile.specs.declared.place.Field.{Field}
use Rattle.mgn_setfile.specs.declared.place.Field.TheVariants as field
use Rattle.mgn_params.specs.declared.tables.LegSide.{LegSide}
use Rattle.mgn_params.specs.declared.tables.LegSide.TheVariants.{A, B}
use Rattle.mgn_setfile.specs.Fields.{Fields, Flaw}
use Rattle.mgn_setfile.specs.File.{Record}

-- What is wrong with the fields of a record as a whole.

abbrev pub kind_of : List ℕ → Option RecordKind
kind_of letter =
    if bytes_eq letter (codes "G") then Some kind.Commodity
    else (if bytes_eq letter (codes "M") then Some kind.Month
    else (if bytes_eq letter (codes "K") then Some kind.Contract
    else (if bytes_eq letter (codes "S") then Some kind.Spread
    else (if bytes_eq letter (codes "I") then Some kind.CreditSpread
    else (if bytes_eq letter (codes "V") then Some kind.Class
    else (if bytes_eq letter (codes "T") then Some kind.Spot else None))))))

-- the side without a leg, by the side of the first: all legs are on one side
abbrev pub other_side : List ℕ → LegSide
other_side first = if bytes_eq first (codes "A") then B else A

-- a spread between commodities of two, three or four legs
abbrev pub has_whole_legs : ℕ → Bool
has_whole_legs count = (count == 8) || (count == 11) || (count == 14)

abbrev pub misfit : RecordKind → Fields → Detail
misfit kind.CreditSpread fields =
    if has_whole_legs (length fields) then NoLeg (other_side (slice_index_or fields 3 []))
    else Count kind.CreditSpread (length fields)
misfit of fields = Count of (length fields)

abbrev pub misfit_of : Fields → Option Detail
misfit_of fields = option_map (λ of. misfit of fields) (kind_of (slice_index_or fields 0 []))

abbrev pub detail_by : Cause → Option Field → Record → Option Detail
detail_by WrongFields None None = Some Second
detail_by WrongFields None (Some fields) = misfit_of fields
detail_by _ _ _ = None

-- the detail of the fault of a record
abbrev pub detail_of : Record → Flaw → Option Detail
detail_of r fault = detail_by fault.cause fault.field r

-- the record of a number, from 1
abbrev pub numbered_record : List Record → ℕ → Record
numbered_record records number = slice_index_or records (number - 1) None

-- How a field is told: by its number in its record, and by its name.

abbrev pub number : Field → ℕ
number field.Kind = 1
number (field.Header n) = n
number (field.Commodity n) = n
number (field.Month n) = n
number (field.Contract n) = n
number (field.Spread n) = n
number (field.CreditSpread n) = n
number (field.Class n) = n
number (field.Spot n) = n

-- the name of a field by its number, from 2 on, and that of all others
abbrev pub name_or : List (List ℕ) → ℕ → List ℕ → List ℕ
name_or names n others = slice_index_or names (n - 2) others

abbrev pub leg_name : ℕ → List ℕ
leg_name rest = if rest == 0 then codes "commodity of leg" else (if rest == 1 then codes "side of leg" else codes "ratio of leg")

abbrev pub name : Field → List ℕ
name field.Kind = codes "kind of record"
name (field.Header n) = name_or (codes "version" ∷ []) n (codes "name")
name (field.Commodity n) = name_or (codes "commodity" ∷ []) n (codes "charge")
name (field.Month n) = name_or (codes "commodity" ∷ codes "month" ∷ []) n (codes "tier")
name (field.Contract n) = name_or (codes "contract" ∷ codes "commodity" ∷ codes "month" ∷ codes "kind" ∷ codes "style" ∷ codes "delta" ∷ codes "value" ∷ []) n (codes "loss in scenario")
name (field.Spread n) = name_or (codes "commodity" ∷ codes "first tier" ∷ codes "first ratio" ∷ codes "second tier" ∷ codes "second ratio" ∷ []) n (codes "charge")
name (field.CreditSpread n) = if n == 2 then codes "rate" else leg_name (n % 3)
name (field.Class n) = name_or (codes "class" ∷ codes "price" ∷ []) n (codes "haircut")
name (field.Spot n) = name_or (codes "commodity" ∷ codes "tier" ∷ codes "spread rate" ∷ []) n (codes "outright rate")

-- which value of a contract's array, or which leg of a spread, it is of
abbrev pub part : Field → Option ℕ
part (field.Contract n) = if nat_le 9 n then Some (n - 8) else None
part (field.CreditSpread n) = if nat_le 3 n then Some (n / 3) else None
part _ = None

abbrev pub part_words : Option ℕ → List ℕ
part_words None = []
part_words (Some n) = codes " " ++ decimal n

abbrev pub field_words : Field → List ℕ
field_words of = codes "field " ++ decimal (number of) ++ codes " (" ++ name of ++ part_words (part of) ++ codes ")"

-- Why a record is wrong, by its cause and the field that has it.

abbrev pub header_words : Option Field → List ℕ
header_words (Some of) = codes "the version must be 1 or 2"
header_words None = codes "the first record, and no other, must be a header: H, version 1 or 2, and a name"

-- where no field has it, the detail tells more; a line's record has a field at least
abbrev pub fields_words : Option Field → List ℕ
fields_words (Some of) = codes "this version has no record of this kind"
fields_words None = codes "it has no fields"

abbrev pub spelling : List ℕ
spelling = codes "a name must be 1 to 16 of the letters A to Z and digits"

abbrev pub name_words : Option Field → List ℕ
name_words (Some (field.Contract n)) =
    if n == 5 then codes "it must be F, C or P" else (if n == 6 then codes "it must be P or F" else spelling)
name_words (Some (field.CreditSpread n)) = if n % 3 == 1 then codes "it must be A or B" else spelling
name_words _ = spelling

-- whether a field is a name
abbrev pub is_named : Field → Bool
is_named field.Kind = false
is_named (field.Header n) = n == 3
is_named (field.Contract n) = nat_le n 3
is_named (field.CreditSpread n) = nat_le 3 n && (n % 3 == 0)
is_named of = number of == 2

abbrev pub size_words : Field → List ℕ
size_words of = if is_named of then codes "the name has more than 16 bytes" else codes "the number is outside its limits"

abbrev pub range_words : Option Field → List ℕ
range_words (Some (field.Contract n)) =
    if n == 6 then codes "the style of a future must be F"
    else (if n == 8 then codes "the number is outside its limits, or is not 0 though the style is F" else size_words (field.Contract n))
range_words (Some of) = size_words of
range_words None = codes "the number is outside its limits"

abbrev pub unknown_words : Option Field → List ℕ
unknown_words (Some (field.Contract n)) =
    if n == 4 then codes "no earlier record gives this month of its commodity" else codes "no earlier record gives this commodity"
unknown_words _ = codes "no earlier record gives this commodity"

abbrev pub double_words : Option Field → List ℕ
double_words (Some (field.Month n)) = codes "an earlier record gives this month of its commodity"
double_words (Some (field.CreditSpread n)) = codes "an earlier leg is of this commodity"
double_words (Some (field.Class n)) = codes "an earlier record gives this class, or it is CASH, which every set has"
double_words (Some (field.Spot n)) = codes "an earlier record gives the charge of this commodity"
double_words _ = codes "an earlier record gives this name"

abbrev pub words_of : Cause → Option Field → List ℕ
words_of Header of = header_words of
words_of WrongFields of = fields_words of
words_of Name of = name_words of
words_of Number of = codes "it is not spelled as a number"
words_of Range of = range_words of
words_of Unknown of = unknown_words of
words_of Double of = double_words of
words_of Limit of = codes "its table has as many rows as it may have"
words_of Memory of = codes "memory could not be had"

-- What is wrong with the fields as a whole.

abbrev pub kind_words : RecordKind → List ℕ
kind_words kind.Commodity = codes "a G record has 3"
kind_words kind.Month = codes "an M record has 4"
kind_words kind.Contract = codes "a K record has 24"
kind_words kind.Spread = codes "an S record has 7"
kind_words kind.CreditSpread = codes "an I record has 8, 11 or 14"
kind_words kind.Class = codes "a V record has 4"
kind_words kind.Spot = codes "a T record has 5"

abbrev pub count_words : ℕ → List ℕ
count_words count = if count == 1 then codes "1 field" else decimal count ++ codes " fields"

abbrev pub side_words : LegSide → List ℕ
side_words A = codes "it has no leg on side A"
side_words B = codes "it has no leg on side B"

abbrev pub detail_words : Detail → List ℕ
detail_words (Count of count) = codes "it has " ++ count_words count ++ codes ", and " ++ kind_words of
detail_words Second = codes "it is two records in one line"
detail_words (NoLeg side) = side_words side

-- The sentence: where the record stands, which of its fields is wrong, and why.

abbrev pub line_words : ℕ → ℕ → List ℕ
line_words number line = if line == number then [] else codes ", line " ++ decimal line

abbrev pub place_words : Option Field → List ℕ
place_words None = []
place_words (Some of) = codes ", " ++ field_words of

abbrev pub reason : Option Detail → Cause → Option Field → List ℕ
reason (Some detail) cause of = detail_words detail
reason None cause of = words_of cause of

abbrev pub sentence : SetFault → List ℕ
sentence e =
    codes "record " ++ decimal e.number ++ line_words e.number e.line ++ place_words e.field ++ codes ": " ++ reason e.detail e.cause e.field
