-- The lines that have a record, those that are not blank: for the line that a fault tells.
use Rattle.std.proofs.Common.{◌≡◌, ◌+◌, ◌-◌, ◌<◌, ℕ, suc, List, [], ◌∷◌, ◌++◌, length, drop, get_or, Bool, true, false, Option, Some, None, inl, inr, refl, sym, ap, ◌∙◌, arith}
use Rattle.std.specs.Prelude.{◌==◌}
use Rattle.std.specs.List.{list_all, slice_split}
use Rattle.std.proofs.lemmas.Bool.{eqb-true}
use Rattle.std.proofs.lemmas.List.{append-nil, get_or-drop}
use Rattle.std.proofs.lemmas.List.Elements.{All-head, All-tail}
use Rattle.std.proofs.lemmas.List.Splits.{slice_split_at, slice_split_none}
use Rattle.csv.specs.declared.parser.State.{State}
use Rattle.csv.specs.declared.parser.State.TheVariants as st
use Rattle.csv.specs.Machine.{Read, ends_at_end, field_after, fields_after, next_record, step}
use Rattle.csv.specs.Reading.{default_config, is_bom, records_from, strip_bom}
use Rattle.mgn_setfile.specs.Fields.{Fields}
use Rattle.mgn_setfile.specs.File.{Record, line_of_record, numbered, record_of, record_of_line}
use Rattle.mgn_setfile.specs.Lines.{is_blank, lines_left}
use Rattle.mgn_setfile.proofs.FileLemmas.{numbers_left, numbers_next}
use Rattle.mgn_setfile.proofs.LineLemmas.{blank_line}
use Rattle.mgn_setfile.proofs.PlainLemmas.{NoEnd, cut, end_and, is_within, step_ends, step_goes_on, steps_of}

-- what is left of a record gives one

within_ends : (s : State) → is_within s ≡ true → ends_at_end s ≡ true
within_ends st.StartField e = refl
within_ends st.InField e = refl
within_ends st.InQuoted e = refl
within_ends st.AfterQuote e = refl
within_ends st.StartRecord e = cc
within_ends st.InEscape e = cc
within_ends st.InComment e = cc
within_ends st.AfterCr e = cc

within_found : (s : State) (fields : Fields) (field xs : List ℕ) → is_within s ≡ true → NoEnd xs → (p : Read) × (next_record default_config s fields field xs ≡ Some p)
unfolding next_record
within_found s fields field [] within end = ((fields ++ field ∷ [], st.StartRecord, []), rw (within_ends s within) refl)
within_found s fields field (c ∷ xs) within end =
    let x = step default_config s c in
    elim (steps_of s within c (All-head (λ b. (b == 10) ≡ false) c xs end)) as (λ _. (p : Read) × (next_record default_config s fields field (c ∷ xs) ≡ Some p)) [
      | inl ends ↦ ((fields_after x.1 fields field, x.0, xs), step_ends s c fields field xs ends.0)
      | inr on ↦
          let more = within_found x.0 (fields_after x.1 fields field) (field_after x.1 c field) xs on.1 (All-tail (λ b. (b == 10) ≡ false) c xs end) in
          (more.0, step_goes_on s c fields field xs on.0 ∙ more.1)
    ]

pub passes_return : (xs : List ℕ) → next_record default_config st.StartRecord [] [] (13 ∷ xs) ≡ next_record default_config st.StartRecord [] [] xs
unfolding next_record
passes_return xs = refl

pub starts_field : (c : ℕ) (xs : List ℕ) → (c == 13) ≡ false → (c == 10) ≡ false → next_record default_config st.StartRecord [] [] (c ∷ xs) ≡ next_record default_config st.StartField [] [] (c ∷ xs)
unfolding next_record
starts_field c xs return end = rw (return, end) refl

pub begun : (xs : List ℕ) → NoEnd xs → list_all (λ b. b == 13) xs ≡ false → (p : Read) × (next_record default_config st.StartRecord [] [] xs ≡ Some p)
begun [] end some = cc
begun (c ∷ xs) end some = by (c == 13) refl (begun xs (All-tail (λ b. (b == 10) ≡ false) c xs end))
  where
    by : (return : Bool) → (c == 13) ≡ return → (list_all (λ b. b == 13) xs ≡ false → (p : Read) × (next_record default_config st.StartRecord [] [] xs ≡ Some p)) → (p : Read) × (next_record default_config st.StartRecord [] [] (c ∷ xs) ≡ Some p)
    by true e later =
        let more = later (rw e at some) in
        (more.0, rw (eqb-true c 13 e) (passes_return xs ∙ more.1))
    by false e later =
        let found = within_found st.StartField [] [] (c ∷ xs) refl end in
        (found.0, starts_field c xs e (All-head (λ b. (b == 10) ≡ false) c xs end) ∙ found.1)

-- a line without a byte order mark has no end of line either
pub stripped : (line : List ℕ) → NoEnd line → NoEnd (strip_bom line)
unfolding strip_bom
stripped [] end = end
stripped (a ∷ []) end = end
stripped (a ∷ b ∷ []) end = end
stripped (a ∷ b ∷ c ∷ line) end = by (is_bom a b c) refl
  where
    by : (mark : Bool) → is_bom a b c ≡ mark → NoEnd (strip_bom (a ∷ b ∷ c ∷ line))
    by true e = rw e (All-tail (λ x. (x == 10) ≡ false) c line (All-tail (λ x. (x == 10) ≡ false) b (c ∷ line) (All-tail (λ x. (x == 10) ≡ false) a (b ∷ c ∷ line) end)))
    by false e = rw e end

one_record : (f : Fields) (more : List Fields) → (r : Record) × (record_of (f ∷ more) ≡ r ∷ [])
one_record f [] = (Some f, refl)
one_record f (g ∷ more) = (None, refl)

records_begun : (xs : List ℕ) (p : Read) → next_record default_config st.StartRecord [] [] xs ≡ Some p → records_from default_config (length xs + 1) st.StartRecord xs ≡ p.0 ∷ records_from default_config (length xs) p.1 p.2
unfolding records_from
records_begun xs p e =
    let more : length xs + 1 ≡ suc (length xs) = omega arith in
    rw (more, e) refl

record_found : (line : List ℕ) → NoEnd line → is_blank line ≡ false → (r : Record) × (record_of_line line ≡ r ∷ [])
unfolding record_of_line
record_found line end some =
    let first = begun (strip_bom line) (stripped line end) some in
    let p = first.0 in
    let one = one_record p.0 (records_from default_config (length (strip_bom line)) p.1 p.2) in
    (one.0, ap record_of (records_begun (strip_bom line) p first.1) ∙ one.1)

-- the first line of a text has no end of line

head_is : {A : Type 0} (x y : A) (xs ys : List A) → x ∷ xs ≡ y ∷ ys → x ≡ y
head_is x y xs ys e = cc

pub line_within : (left line : List ℕ) (lines : List (List ℕ)) → slice_split (λ b. b == 10) left ≡ line ∷ lines → NoEnd line
line_within left line lines e =
    let first = cut left in
    by first.0 first.1 first.2.within (rw first.2.parts at e)
  where
    by : (first : List ℕ) (rest : Option (List ℕ)) → NoEnd first → slice_split (λ b. b == 10) (first ++ end_and rest) ≡ line ∷ lines → NoEnd line
    by first None end e = let whole = rw (append-nil first, slice_split_none (λ b. b == 10) first end) at e in rw (← head_is first line [] lines whole) end
    by first (Some rest) end e = let whole = rw (slice_split_at (λ b. b == 10) first 10 rest end refl) at e in rw (← head_is first line (slice_split (λ b. b == 10) rest) lines whole) end

-- the numbers of the lines that are left, where the first has a record
pub has_number : (before : ℕ) (line left : List ℕ) (more : Option (List ℕ)) → slice_split (λ b. b == 10) left ≡ line ∷ lines_left more → is_blank line ≡ false
    → numbers_left before (Some left) ≡ (before + 1) ∷ numbers_left (before + 1) more
has_number before line left more e some =
    let found = record_found line (line_within left line (lines_left more) e) some in
    rw (numbers_next before line left more e, found.1) refl

-- the same where it is blank
pub passes_blank : (before : ℕ) (line left : List ℕ) (more : Option (List ℕ)) → slice_split (λ b. b == 10) left ≡ line ∷ lines_left more → is_blank line ≡ true
    → numbers_left before (Some left) ≡ numbers_left (before + 1) more
unfolding record_of_line
passes_blank before line left more e blank = rw (numbers_next before line left more e, blank_line line blank) refl

pub no_number : (file : List ℕ) (count number : ℕ) → count < number → drop count (numbered 0 (slice_split (λ b. b == 10) file)) ≡ [] → 1 ≡ line_of_record file number
no_number file count number less none =
    let k = number - 1 - count in
    let place : count + k ≡ number - 1 = omega arith in
    let lines = numbered 0 (slice_split (λ b. b == 10) file) in
    sym (ap (λ (n : ℕ). get_or lines n 1) (sym place) ∙ sym (get_or-drop count lines k 1) ∙ ap (λ (ns : List ℕ). get_or ns k 1) none)
