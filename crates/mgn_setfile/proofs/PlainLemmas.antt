-- The records of a plain text: one reader of the whole finds what readers of its lines find.
use Rattle.std.proofs.Common.{◌≡◌, ◌+◌, ◌-◌, ◌<◌, ℕ, ◌≤◌, zero, suc, List, [], ◌∷◌, ◌++◌, length, map, Bool, true, false, Option, Some, None, inl, inr, refl, sym, ap, ◌∙◌, arith, length-append}
use Rattle.std.specs.Prelude.{◌==◌, ◌&&◌, ◌||◌, ◌⊎◌, if◌then◌else◌, not, IfSome}
use Rattle.std.specs.List.{All, list_all}
use Rattle.std.proofs.lemmas.Bool.{and_parts, eqb-true}
use Rattle.std.proofs.lemmas.List.{append-nil, map-append}
use Rattle.std.proofs.lemmas.List.Elements.{All-cons, All-head, All-nil, All-tail}
use Rattle.std.proofs.lemmas.List.Splits.{slice_split_at, slice_split_none}
use Rattle.csv.specs.declared.parser.Action.{Action}
use Rattle.csv.specs.declared.parser.Action.TheVariants as act
use Rattle.csv.specs.declared.parser.State.{State}
use Rattle.csv.specs.declared.parser.State.TheVariants as st
use Rattle.csv.specs.Machine.{ends_at_end, field_after, fields_after, in_field, is_end, next_record, step}
use Rattle.csv.specs.Reading.{default_config, records, records_from, records_next, strip_bom}
use Rattle.mgn_setfile.specs.declared.scan.Shape.{Shape}
use Rattle.mgn_setfile.specs.declared.scan.Shape.TheVariants.{Closed, Open, Second}
use Rattle.mgn_setfile.specs.Fields.{Fields}
use Rattle.mgn_setfile.specs.File.{Record, record_of, record_of_line, records_of}
use Rattle.mgn_setfile.specs.Lines.{line_records}
use Rattle.mgn_setfile.specs.Plain.{has_mark, is_closed, is_plain, is_plain_line, shape, shape_of_rest}
use Rattle.mgn_setfile.proofs.LineLemmas.{none_left}

-- A text is its first line and, after an end of line, the rest.

abbrev pub end_and : Option (List ℕ) → List ℕ
end_and None = []
end_and (Some rest) = 10 ∷ rest

abbrev after : Option (List ℕ) → List ℕ
after None = []
after (Some rest) = rest

abbrev pub NoEnd : List ℕ → Type 0
NoEnd line = All (λ b. (b == 10) ≡ false) line

pub record IsCut (text line : List ℕ) (rest : Option (List ℕ)) : Type 0 where
  pub parts : text ≡ line ++ end_and rest
  pub within : NoEnd line

abbrev pub Cut : List ℕ → Type 0
Cut text = (line : List ℕ) × (rest : Option (List ℕ)) × IsCut text line rest

pub cut : (text : List ℕ) → Cut text
cut [] = ([], None, record { parts = refl; within = All-nil (λ b. (b == 10) ≡ false) })
cut (b ∷ text) = by (b == 10) refl (cut text)
  where
    by : (end : Bool) → (b == 10) ≡ end → Cut text → Cut (b ∷ text)
    by true e more = ([], Some text, record { parts = ap (λ (x : ℕ). x ∷ text) (eqb-true b 10 e); within = All-nil (λ x. (x == 10) ≡ false) })
    by false e more = (b ∷ more.0, more.1, record { parts = ap (λ (xs : List ℕ). b ∷ xs) more.2.parts; within = All-cons (λ x. (x == 10) ≡ false) b more.0 e more.2.within })

-- A step from within a record stays there, or ends it.

abbrev pub is_within : State → Bool
is_within st.StartRecord = false
is_within st.StartField = true
is_within st.InField = true
is_within st.InQuoted = true
is_within st.AfterQuote = true
is_within st.InEscape = false
is_within st.InComment = false
is_within st.AfterCr = false

abbrev pub Steps : State × Action → Type 0
Steps x = ((is_end x.1 ≡ true) × (ends_at_end x.0 ≡ false)) ⊎ ((is_end x.1 ≡ false) × (is_within x.0 ≡ true))

field_picks : (comma return : Bool) → Steps (if comma then (st.StartField, act.EndField) else if return || false then (if return then st.AfterCr else st.StartRecord, act.EndRecord) else (st.InField, act.Copy))
field_picks true return = inr (refl, refl)
field_picks false true = inl (refl, refl)
field_picks false false = inr (refl, refl)

field_steps : (c : ℕ) → (c == 10) ≡ false → Steps (in_field default_config c)
field_steps c end = rw end (field_picks (c == 44) (c == 13))

start_picks : (quote : Bool) (x : State × Action) → Steps x → Steps (if quote then (st.InQuoted, act.Skip) else x)
start_picks true x steps = inr (refl, refl)
start_picks false x steps = steps

quoted_picks : (quote : Bool) → Steps (if quote then (st.AfterQuote, act.Skip) else (st.InQuoted, act.Copy))
quoted_picks true = inr (refl, refl)
quoted_picks false = inr (refl, refl)

quote_picks : (quote : Bool) (x : State × Action) → Steps x → Steps (if quote then (st.InQuoted, act.Copy) else x)
quote_picks true x steps = inr (refl, refl)
quote_picks false x steps = steps

pub steps_of : (s : State) → is_within s ≡ true → (c : ℕ) → (c == 10) ≡ false → Steps (step default_config s c)
steps_of st.StartField within c end = start_picks (c == 34) (in_field default_config c) (field_steps c end)
steps_of st.InField within c end = field_steps c end
steps_of st.InQuoted within c end = quoted_picks (c == 34)
steps_of st.AfterQuote within c end = quote_picks (c == 34) (in_field default_config c) (field_steps c end)
steps_of st.StartRecord within c end = cc
steps_of st.InEscape within c end = cc
steps_of st.InComment within c end = cc
steps_of st.AfterCr within c end = cc

-- The records of a text that begins with a line: what comes first, and then those of the rest.

pub nothing_left : (n : ℕ) → records_from default_config n st.StartRecord [] ≡ []
unfolding next_record
nothing_left n = none_left n st.StartRecord [] refl

-- outside of a record a carriage return is passed over, and an end of line too
returned : (n : ℕ) (s : State) → ends_at_end s ≡ false → (tail : List ℕ) → records_from default_config n s (13 ∷ tail) ≡ records_from default_config n st.StartRecord tail
unfolding records_from next_record
returned zero s out tail = refl
returned (suc n) st.StartRecord out tail = refl
returned (suc n) st.AfterCr out tail = refl
returned (suc n) st.StartField out tail = cc
returned (suc n) st.InField out tail = cc
returned (suc n) st.InQuoted out tail = cc
returned (suc n) st.AfterQuote out tail = cc
returned (suc n) st.InEscape out tail = cc
returned (suc n) st.InComment out tail = cc

ended : (n : ℕ) (s : State) → ends_at_end s ≡ false → (rest : Option (List ℕ)) → records_from default_config n s (end_and rest) ≡ records_from default_config n st.StartRecord (after rest)
unfolding records_from next_record
ended zero s out rest = refl
ended (suc n) st.StartRecord out None = refl
ended (suc n) st.StartRecord out (Some rest) = refl
ended (suc n) st.AfterCr out None = refl
ended (suc n) st.AfterCr out (Some rest) = refl
ended (suc n) st.StartField out rest = cc
ended (suc n) st.InField out rest = cc
ended (suc n) st.InQuoted out rest = cc
ended (suc n) st.AfterQuote out rest = cc
ended (suc n) st.InEscape out rest = cc
ended (suc n) st.InComment out rest = cc

returns_end : (n : ℕ) (s : State) → ends_at_end s ≡ false → (line : List ℕ) → list_all (λ b. b == 13) line ≡ true → (rest : Option (List ℕ))
    → records_from default_config n s (line ++ end_and rest) ≡ records_from default_config n st.StartRecord (after rest)
returns_end n s out [] all rest = ended n s out rest
returns_end n s out (b ∷ line) all rest =
    let both = and_parts (b == 13) (list_all (λ x. x == 13) line) all in
    rw (eqb-true b 13 both.0) (returned n s out (line ++ end_and rest) ∙ returns_end n st.StartRecord refl line both.1 rest)

-- what is left of a closed line ends a record, the same one whatever follows
abbrev Gives1 : State → Fields → List ℕ → List ℕ → Fields → Type 0
Gives1 s fields field line g =
    (n : ℕ) (rest : Option (List ℕ)) → records_next (records_from default_config n) (next_record default_config s fields field (line ++ end_and rest)) ≡ g ∷ records_from default_config n st.StartRecord (after rest)

last_field : (s : State) (fields : Fields) (field : List ℕ) → is_within s ≡ true → shape s [] ≡ Closed → Gives1 s fields field [] (fields ++ field ∷ [])
unfolding next_record
last_field st.StartField fields field within closed n None = refl
last_field st.StartField fields field within closed n (Some rest) = refl
last_field st.InField fields field within closed n None = refl
last_field st.InField fields field within closed n (Some rest) = refl
last_field st.AfterQuote fields field within closed n None = refl
last_field st.AfterQuote fields field within closed n (Some rest) = refl
last_field st.InQuoted fields field within closed n rest = cc
last_field st.StartRecord fields field within closed n rest = cc
last_field st.InEscape fields field within closed n rest = cc
last_field st.InComment fields field within closed n rest = cc
last_field st.AfterCr fields field within closed n rest = cc

pub step_ends : (s : State) (c : ℕ) (fields : Fields) (field tail : List ℕ) → is_end (step default_config s c).1 ≡ true
    → next_record default_config s fields field (c ∷ tail) ≡ Some (fields_after (step default_config s c).1 fields field, (step default_config s c).0, tail)
unfolding next_record
step_ends s c fields field tail e = rw e refl

pub step_goes_on : (s : State) (c : ℕ) (fields : Fields) (field tail : List ℕ) → is_end (step default_config s c).1 ≡ false
    → next_record default_config s fields field (c ∷ tail) ≡ next_record default_config (step default_config s c).0 (fields_after (step default_config s c).1 fields field) (field_after (step default_config s c).1 c field) tail
unfolding next_record
step_goes_on s c fields field tail e = rw e refl

closed_rest : (b : Bool) (rest more : Shape) → b ≡ true → (if b then rest else more) ≡ Closed → rest ≡ Closed
closed_rest true rest more e h = h
closed_rest false rest more e h = cc

closed_more : (b : Bool) (rest more : Shape) → b ≡ false → (if b then rest else more) ≡ Closed → more ≡ Closed
closed_more true rest more e h = cc
closed_more false rest more e h = h

all_returns : (b : Bool) → (if b then Closed else Second) ≡ Closed → b ≡ true
all_returns true e = refl
all_returns false e = cc

one : (s : State) (fields : Fields) (field line : List ℕ) → NoEnd line → is_within s ≡ true → shape s line ≡ Closed → (g : Fields) × Gives1 s fields field line g
one s fields field [] end within closed = (fields ++ field ∷ [], last_field s fields field within closed)
one s fields field (c ∷ line) end within closed =
    let x = step default_config s c in
    elim (steps_of s within c (All-head (λ b. (b == 10) ≡ false) c line end)) as (λ _. (g : Fields) × Gives1 s fields field (c ∷ line) g) [
      | inl ends ↦
          let all = all_returns (list_all (λ b. b == 13) line) (closed_rest (is_end x.1) (shape_of_rest line) (shape x.0 line) ends.0 closed) in
          (fields_after x.1 fields field, λ n rest. rw (step_ends s c fields field (line ++ end_and rest) ends.0) (ap (λ (rs : List Fields). fields_after x.1 fields field ∷ rs) (returns_end n x.0 ends.1 line all rest)))
      | inr on ↦
          let left = closed_more (is_end x.1) (shape_of_rest line) (shape x.0 line) on.0 closed in
          let more = one x.0 (fields_after x.1 fields field) (field_after x.1 c field) line (All-tail (λ b. (b == 10) ≡ false) c line end) on.1 left in
          (more.0, λ n rest. rw (step_goes_on s c fields field (line ++ end_and rest) on.0) (more.1 n rest))
    ]

-- a record begins with the first byte of a field
begins : (g : Fields) (n c : ℕ) (tail : List ℕ) → (c == 13) ≡ false → (c == 10) ≡ false
    → records_from default_config (length (g ∷ []) + n) st.StartRecord (c ∷ tail) ≡ records_next (records_from default_config n) (next_record default_config st.StartField [] [] (c ∷ tail))
unfolding records_from next_record
begins g n c tail return end =
    let one : length (g ∷ []) + n ≡ suc n = omega arith in
    rw (one, return, end) refl

pub shape_begins : (c : ℕ) (line : List ℕ) → (c == 13) ≡ false → (c == 10) ≡ false → shape st.StartRecord (c ∷ line) ≡ shape st.StartField (c ∷ line)
shape_begins c line return end = rw (return, end) refl

-- a closed line has one record or none
pub record Spends (line : List ℕ) (found : List Fields) : Type 0 where
  pub few : length found ≤ 1
  pub first : (n : ℕ) (rest : Option (List ℕ)) → records_from default_config (length found + n) st.StartRecord (line ++ end_and rest) ≡ found ++ records_from default_config n st.StartRecord (after rest)

abbrev pub Spent : List ℕ → Type 0
Spent line = (found : List Fields) × Spends line found

spends_return : (c : ℕ) (line : List ℕ) (found : List Fields) → (c == 13) ≡ true → Spends line found → Spends (c ∷ line) found
spends_return c line found e more =
    record { few = more.few; first = λ n rest. rw (eqb-true c 13 e) (returned (length found + n) st.StartRecord refl (line ++ end_and rest) ∙ more.first n rest) }

no_more_than : (n : ℕ) → 0 + n ≡ n
no_more_than n = omega arith

pub spent : (line : List ℕ) → NoEnd line → shape st.StartRecord line ≡ Closed → Spent line
spent [] end closed = ([], record { few = omega arith; first = λ n rest. ap (λ (k : ℕ). records_from default_config k st.StartRecord (end_and rest)) (no_more_than n) ∙ ended n st.StartRecord refl rest })
spent (c ∷ line) end closed = by (c == 13) refl (spent line (All-tail (λ b. (b == 10) ≡ false) c line end))
  where
    by : (return : Bool) → (c == 13) ≡ return → (shape st.StartRecord line ≡ Closed → Spent line) → Spent (c ∷ line)
    by true e later =
        let more = later (rw (eqb-true c 13 e) at closed) in
        (more.0, spends_return c line more.0 e more.1)
    by false e later =
        let head = All-head (λ b. (b == 10) ≡ false) c line end in
        let first = one st.StartField [] [] (c ∷ line) end refl (sym (shape_begins c line e head) ∙ closed) in
        (first.0 ∷ [], record { few = omega arith; first = λ n rest. begins first.0 n c (line ++ end_and rest) e head ∙ first.1 n rest })

-- no byte order mark

not_second : (p q : Bool) → (p && false && q) ≡ false
not_second true q = refl
not_second false q = refl

not_third : (p q : Bool) → (p && q && false) ≡ false
not_third true true = refl
not_third true false = refl
not_third false q = refl

unmarked : (line : List ℕ) (rest : Option (List ℕ)) → has_mark line ≡ false → strip_bom (line ++ end_and rest) ≡ line ++ end_and rest
unfolding strip_bom
unmarked [] None e = refl
unmarked [] (Some []) e = refl
unmarked [] (Some (b ∷ [])) e = refl
unmarked [] (Some (b ∷ c ∷ rest)) e = refl
unmarked (a ∷ []) None e = refl
unmarked (a ∷ []) (Some []) e = refl
unmarked (a ∷ []) (Some (c ∷ rest)) e = rw (not_second (a == 239) (c == 191)) refl
unmarked (a ∷ b ∷ []) None e = refl
unmarked (a ∷ b ∷ []) (Some rest) e = rw (not_third (a == 239) (b == 187)) refl
unmarked (a ∷ b ∷ c ∷ line) rest e = rw e refl

-- a line gives its record

pub record_of_few : (found : List Fields) → length found ≤ 1 → record_of found ≡ map Some found
record_of_few [] few = refl
record_of_few (f ∷ []) few = refl
record_of_few (f ∷ g ∷ more) few = absurd (omega arith)

-- all records of a line
pub spent_all : (n : ℕ) (line : List ℕ) (found : List Fields) → Spends line found → length found ≤ n → records_from default_config n st.StartRecord line ≡ found
spent_all n line found is enough =
    let m = n - length found in
    let fuel : n ≡ length found + m = omega arith in
    ap (λ (k : ℕ). records_from default_config k st.StartRecord line) fuel
    ∙ ap (λ (xs : List ℕ). records_from default_config (length found + m) st.StartRecord xs) (sym (append-nil line))
    ∙ is.first m None ∙ ap (λ (rs : List Fields). found ++ rs) (nothing_left m) ∙ append-nil found

line_records_are : (line : List ℕ) (found : List Fields) → has_mark line ≡ false → Spends line found → line_records line ≡ found
line_records_are line found plain is =
    let few = is.few in
    let bare : strip_bom line ≡ line = ap strip_bom (sym (append-nil line)) ∙ unmarked line None plain ∙ append-nil line in
    ap (λ (xs : List ℕ). records default_config xs) bare ∙ spent_all (length line + 1) line found is (omega arith)

line_gives : (line : List ℕ) (found : List Fields) → has_mark line ≡ false → Spends line found → record_of_line line ≡ map Some found
unfolding record_of_line
line_gives line found plain is = ap record_of (line_records_are line found plain is) ∙ record_of_few found is.few

-- what a line gives, and then what the rest of the text does
abbrev first_of : List (Option Fields) → Option (List ℕ) → List (Option Fields)
first_of before None = before
first_of before (Some rest) = before ++ records_of rest

by_line : (line : List ℕ) (rest : Option (List ℕ)) → NoEnd line → records_of (line ++ end_and rest) ≡ first_of (record_of_line line) rest
by_line line None end = rw (append-nil line, slice_split_none (λ b. b == 10) line end) (append-nil (record_of_line line))
by_line line (Some rest) end = rw (slice_split_at (λ b. b == 10) line 10 rest end refl) refl

plain_parts : (line : List ℕ) (rest : Option (List ℕ)) → NoEnd line → is_plain (line ++ end_and rest) ≡ true → (is_plain_line line ≡ true) × IfSome rest (λ ys. is_plain ys ≡ true)
plain_parts line None end plain =
    let whole = rw (append-nil line, slice_split_none (λ b. b == 10) line end) at plain in
    ((and_parts (is_plain_line line) true whole).0, tt)
plain_parts line (Some rest) end plain =
    let whole = rw (slice_split_at (λ b. b == 10) line 10 rest end refl) at plain in
    and_parts (is_plain_line line) (is_plain rest) whole

-- what is known of a plain line
record IsPlain (line : List ℕ) : Type 0 where
  bare : has_mark line ≡ false
  closed : shape st.StartRecord line ≡ Closed

not_true : (b : Bool) → not b ≡ true → b ≡ false
not_true true e = cc
not_true false e = refl

closed_is : (s : Shape) → is_closed s ≡ true → s ≡ Closed
closed_is Closed e = refl
closed_is Open e = cc
closed_is Second e = cc

is_plain_is : (line : List ℕ) → is_plain_line line ≡ true → IsPlain line
is_plain_is line plain =
    let both = and_parts (not (has_mark line)) (is_closed (shape st.StartRecord line)) plain in
    record { bare = not_true (has_mark line) both.0; closed = closed_is (shape st.StartRecord line) both.1 }

pub unmarked_text : (text : List ℕ) → is_plain text ≡ true → strip_bom text ≡ text
unmarked_text text plain =
    let first = cut text in
    let halves = plain_parts first.0 first.1 first.2.within (rw first.2.parts at plain) in
    rw first.2.parts (unmarked first.0 first.1 (is_plain_is first.0 halves.0).bare)

abbrev SameUpTo : ℕ → Type 0
SameUpTo k = (n : ℕ) (text : List ℕ) → is_plain text ≡ true → length text < k → length text < n → records_of text ≡ map Some (records_from default_config n st.StartRecord text)

same_rest : (k n : ℕ) (rest : Option (List ℕ)) → IfSome rest (λ ys. is_plain ys ≡ true) → SameUpTo k → length (end_and rest) < suc k → length (end_and rest) ≤ n → (before : List (Option Fields))
    → first_of before rest ≡ before ++ map Some (records_from default_config n st.StartRecord (after rest))
same_rest k n None later same short enough before = rw (nothing_left n) (sym (append-nil before))
same_rest k n (Some rest) later same short enough before = ap (λ (rs : List (Option Fields)). before ++ rs) (same n rest later (omega arith) (omega arith))

same_up_to : (k : ℕ) → SameUpTo k
same_up_to zero n text plain short enough = absurd (omega arith)
same_up_to (suc k) n text plain short enough =
    let first = cut text in
    let line = first.0 in
    let rest = first.1 in
    let parts = first.2.parts in
    let size : length text ≡ length line + length (end_and rest) = ap length parts ∙ length-append line (end_and rest) in
    let halves = plain_parts line rest first.2.within (rw parts at plain) in
    let is = is_plain_is line halves.0 in
    let given = spent line first.2.within is.closed in
    let found = given.0 in
    let few = given.1.few in
    let m = n - length found in
    let fuel : n ≡ length found + m = omega arith in
    ap (λ (ys : List ℕ). records_of ys) parts ∙ by_line line rest first.2.within
    ∙ ap (λ (rs : List Record). first_of rs rest) (line_gives line found is.bare given.1)
    ∙ same_rest k m rest halves.1 (same_up_to k) (omega arith) (omega arith) (map Some found)
    ∙ sym (map-append Some found (records_from default_config m st.StartRecord (after rest)))
    ∙ ap (λ (rs : List Fields). map Some rs) (sym (given.1.first m rest))
    ∙ ap (λ (k : ℕ). map Some (records_from default_config k st.StartRecord (line ++ end_and rest))) (sym fuel)
    ∙ ap (λ (ys : List ℕ). map Some (records_from default_config n st.StartRecord ys)) (sym parts)

-- the records of a plain text are those that a reader of the whole finds
pub records_of_plain : (n : ℕ) (text : List ℕ) → is_plain text ≡ true → length text < n → records_of text ≡ map Some (records_from default_config n st.StartRecord text)
records_of_plain n text plain enough = same_up_to (length text + 1) n text plain (omega arith) enough

pub plain_records : (text : List ℕ) → is_plain text ≡ true → records_of text ≡ map Some (records default_config (strip_bom text)) ++ []
plain_records text plain =
    let bare = unmarked_text text plain in
    records_of_plain (length text + 1) text plain (omega arith)
    ∙ ap (λ (xs : List ℕ). map Some (records default_config xs)) (sym bare)
    ∙ sym (append-nil (map Some (records default_config (strip_bom text))))
