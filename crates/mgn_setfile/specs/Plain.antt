-- Files that one reader reads, and what it has read of one.
use Rattle.std.specs.Borrow.{Bor}
use Rattle.std.specs.Prelude.{◌≡◌, ◌⊎◌, ◌+◌, ◌^◌, ◌<◌, ◌≤◌, ℕ, ◌==◌, ◌&&◌, if◌then◌else◌, Bool, true, false, List, [], ◌∷◌, ◌++◌, Option, None, Some, Err, not, length, map, drop, option_map}
use Rattle.std.specs.List.{list_all, list_any, slice_split}
use Rattle.csv.specs.declared.parser.Action.{Action}
use Rattle.csv.specs.declared.parser.State.{State}
use Rattle.csv.specs.declared.parser.State.TheVariants as st
use Rattle.csv.specs.Machine.{ends_at_end, is_end, step}
use Rattle.csv.specs.declared.reader.Reader.{Reader}
use Rattle.csv.specs.declared.reader.Trim.TheVariants as trim
use Rattle.csv.specs.Reading.{Ready, default_config, is_bom, records, records_from, source_of, strip_bom}
use Rattle.mgn_setfile.specs.declared.draft.Draft.{Draft}
use Rattle.mgn_setfile.specs.declared.fault.Cause.TheVariants.{Memory}
use Rattle.mgn_setfile.specs.declared.fault.SetFault.{SetFault}
use Rattle.mgn_setfile.specs.declared.scan.LinePart.{LinePart}
use Rattle.mgn_setfile.specs.declared.scan.LinePart.TheVariants as part
use Rattle.mgn_setfile.specs.declared.scan.Shape.{Shape}
use Rattle.mgn_setfile.specs.declared.scan.Shape.TheVariants.{Closed, Open, Second}
use Rattle.mgn_setfile.specs.File.{Record, fault_in, line_of_record, outcome, records_of, told, version_left, version_told}
use Rattle.mgn_setfile.specs.Words.{detail_of, numbered_record}

-- How a line ends, from a state of csv's machine: within quotes, with a second record, or with no more than one. A byte ends a
-- record; carriage returns after it begin no other.
abbrev pub is_quoted : State → Bool
is_quoted st.InQuoted = true
is_quoted _ = false

abbrev pub shape_at_end : Bool → Shape
shape_at_end true = Open
shape_at_end false = Closed

abbrev pub shape_of_rest : List ℕ → Shape
shape_of_rest bs = if list_all (λ b. b == 13) bs then Closed else Second

abbrev pub shape : State → List ℕ → Shape
shape s [] = shape_at_end (is_quoted s)
shape s (b ∷ bs) = if is_end (step default_config s b).1 then shape_of_rest bs else shape (step default_config s b).0 bs

-- the same after a step, and from a place in a line
abbrev pub shape_after : State × Action → List ℕ → Shape
shape_after x bs = if is_end x.1 then shape_of_rest bs else shape x.0 bs

abbrev pub shape_from : LinePart → List ℕ → Shape
shape_from part.Before bs = shape st.StartRecord bs
shape_from part.Start bs = shape st.StartField bs
shape_from part.Field bs = shape st.InField bs
shape_from part.Quoted bs = shape st.InQuoted bs
shape_from part.Quote bs = shape st.AfterQuote bs
shape_from part.After bs = shape_of_rest bs
shape_from part.Second bs = Second

-- no quote, and of no end of line
abbrev pub is_bare_byte : ℕ → Bool
is_bare_byte b = not (b == 34) && not (b == 13) && not (b == 10)

abbrev pub is_closed : Shape → Bool
is_closed Closed = true
is_closed Open = false
is_closed Second = false

abbrev pub has_mark : List ℕ → Bool
has_mark (a ∷ b ∷ c ∷ rest) = is_bom a b c
has_mark _ = false

-- no byte order mark, no quote left open and no second record: one reader finds in such lines what readers of each find
abbrev pub is_plain_line : List ℕ → Bool
is_plain_line line = not (has_mark line) && is_closed (shape st.StartRecord line)

abbrev pub is_plain : List ℕ → Bool
is_plain text = list_all is_plain_line (slice_split (λ b. b == 10) text)

-- no quote, no carriage return and no byte that begins a byte order mark
abbrev pub is_bare_text : List ℕ → Bool
is_bare_text text = not (list_any (λ b. b == 34) text) && not (list_any (λ b. b == 13) text) && not (list_any (λ b. b == 239) text)

-- what ends a line of this shape so that a reader may go on behind it: a quote that is left open is closed
abbrev pub end_of : Shape → Option (List ℕ)
end_of Closed = Some (10 ∷ [])
end_of Open = Some (34 ∷ 10 ∷ [])
end_of Second = None

-- bytes and then a line as one reader reads it, where it has no second record
abbrev pub with_line : List ℕ → List ℕ → Option (List ℕ)
with_line bytes line = option_map (λ end. bytes ++ strip_bom line ++ end) (end_of (shape st.StartRecord (strip_bom line)))

abbrev pub Adds : List ℕ → List ℕ → List ℕ → Bool → Type 0
Adds bytes line new true = with_line bytes line ≡ Some new
Adds bytes line new false = (with_line bytes line ≡ None) × (new ≡ bytes)

-- the last records: none, or from a line on that has two
abbrev pub ending : Bool → List Record → List Record
ending true more = None ∷ more
ending false more = []

-- the records of a text are those that one reader finds in the bytes, and then the last ones
abbrev pub Begins : List ℕ → List ℕ → Bool → Type 0
Begins text bytes is_cut = (more : List Record) × (records_of text ≡ map Some (records default_config bytes) ++ ending is_cut more)

-- the bytes that a slice gives
abbrev pub given : Bor (List ℕ) → Option (List ℕ)
given s = Some s.now

abbrev pub bytes_left : Option (List ℕ) → ℕ
bytes_left None = 0
bytes_left (Some bytes) = length bytes

-- how many bytes a reader has left
abbrev pub unread : Reader (Bor (List ℕ)) → ℕ
unread reader = bytes_left (source_of given reader)

-- the records of a text after so many: those that a reader finds in the bytes that it has left, and then the last ones
pub record IsLeft (text : List ℕ) (last : List Record) (reader : Reader (Bor (List ℕ))) (count most : ℕ) (bytes : List ℕ) : Type 0 where
  pub enough : length bytes < most
  pub source : source_of given reader ≡ Some bytes
  pub are : drop count (records_of text) ≡ map Some (records_from default_config most reader.state bytes) ++ last

-- a reader has read so many records of a text, and they gave this much
pub record HasRead (text : List ℕ) (last : List Record) (reader : Reader (Bor (List ℕ))) (draft : Option Draft) (count : ℕ) : Type 0 where
  pub config : reader.config ≡ default_config
  pub trim : reader.trim ≡ trim.None
  pub ready : Ready reader
  pub out : ends_at_end reader.state ≡ false
  pub left : (most : ℕ) × (bytes : List ℕ) × IsLeft text last reader count most bytes
  pub so_far : outcome (records_of text) ≡ told (drop count (records_of text)) count draft
  pub version : version_told (records_of text) ≡ version_left (drop count (records_of text)) draft
  pub room : count + unread reader + 2 ≤ 2 ^ 64

-- the records of a text before the last ones are so many, and give this much
pub record Gives (text : List ℕ) (last : List Record) (draft : Option Draft) (count : ℕ) : Type 0 where
  pub left : drop count (records_of text) ≡ last
  pub set : outcome (records_of text) ≡ told last count draft
  pub version : version_told (records_of text) ≡ version_left last draft

-- a fault is the first of a text, unless a growth was refused
pub record TellsFault (text : List ℕ) (e : SetFault) : Type 0 where
  pub fault : (e.cause ≡ Memory) ⊎ (outcome (records_of text) ≡ Err (e.number, fault_in e))
  pub line : (e.cause ≡ Memory) ⊎ (e.line ≡ line_of_record text e.number)
  pub detail : e.detail ≡ detail_of (numbered_record (records_of text) e.number) (fault_in e)
