-- The lines of any text as one reader reads them: each without its byte order mark and with its last quote closed.
use Rattle.std.proofs.Common.{◌≡◌, ◌+◌, ◌-◌, ◌≤◌, ℕ, zero, suc, List, [], ◌∷◌, ◌++◌, length, map, Bool, true, false, Option, Some, None, inl, inr, refl, sym, ap, subst, option_map, ◌∙◌, arith, length-append, append_assoc}
use Rattle.std.specs.Prelude.{◌==◌, if◌then◌else◌}
use Rattle.std.specs.List.{list_all, slice_split}
use Rattle.std.proofs.lemmas.Bool.{eqb-true}
use Rattle.std.proofs.lemmas.List.{append-nil, map-append}
use Rattle.std.proofs.lemmas.List.Elements.{All-append, All-cons, All-head, All-nil, All-tail}
use Rattle.csv.specs.declared.parser.State.{State}
use Rattle.csv.specs.declared.parser.State.TheVariants as st
use Rattle.csv.specs.Machine.{Read, ends_at_end, field_after, fields_after, is_end, next_record, step}
use Rattle.csv.specs.Reading.{default_config, records, records_from, records_next, strip_bom}
use Rattle.mgn_setfile.specs.declared.scan.Shape.{Shape}
use Rattle.mgn_setfile.specs.declared.scan.Shape.TheVariants.{Closed, Open, Second}
use Rattle.mgn_setfile.specs.Fields.{Fields}
use Rattle.mgn_setfile.specs.File.{Record, record_of, record_of_line, records_of}
use Rattle.mgn_setfile.specs.Lines.{lines_left}
use Rattle.mgn_setfile.specs.Plain.{Begins, end_of, is_quoted, shape, shape_at_end, shape_of_rest, with_line}
use Rattle.mgn_setfile.proofs.FileLemmas.{next, records_left}
use Rattle.mgn_setfile.proofs.NumberLemmas.{begun, line_within, passes_return, starts_field, stripped}
use Rattle.mgn_setfile.proofs.PlainLemmas.{NoEnd, is_within, nothing_left, record_of_few, shape_begins, spent, spent_all, step_ends, step_goes_on, steps_of}

-- A line that is left within quotes, and the same with a quote at its end.

goes_on_open : (b : Bool) (bs : List ℕ) (more : Shape) → (if b then shape_of_rest bs else more) ≡ Open → (b ≡ false) × (more ≡ Open)
goes_on_open true bs more e = by (list_all (λ b. b == 13) bs) e
  where
    by : (all : Bool) → (if all then Closed else Second) ≡ Open → (true ≡ false) × (more ≡ Open)
    by true e = cc
    by false e = cc
goes_on_open false bs more e = (refl, e)

closed_at_end : (s : State) → shape s [] ≡ Open → s ≡ st.InQuoted
closed_at_end st.InQuoted e = refl
closed_at_end st.StartRecord e = cc
closed_at_end st.StartField e = cc
closed_at_end st.InField e = cc
closed_at_end st.AfterQuote e = cc
closed_at_end st.InEscape e = cc
closed_at_end st.InComment e = cc
closed_at_end st.AfterCr e = cc

shape_step : (s : State) (c : ℕ) (line : List ℕ) → is_end (step default_config s c).1 ≡ false → shape s (c ∷ line) ≡ shape (step default_config s c).0 line
shape_step s c line e = rw e refl

closing : (s : State) (line : List ℕ) → shape s line ≡ Open → shape s (line ++ 34 ∷ []) ≡ Closed
closing s [] open' = rw (closed_at_end s open') refl
closing s (c ∷ line) open' =
    let x = step default_config s c in
    let on = goes_on_open (is_end x.1) line (shape x.0 line) open' in
    shape_step s c (line ++ 34 ∷ []) on.0 ∙ closing x.0 line on.1

last_quote : (fields : Fields) (field : List ℕ) → next_record default_config st.InQuoted fields field [] ≡ next_record default_config st.InQuoted fields field (34 ∷ [])
unfolding next_record
last_quote fields field = refl

quoted_same : (s : State) (fields : Fields) (field line : List ℕ) → shape s line ≡ Open → next_record default_config s fields field line ≡ next_record default_config s fields field (line ++ 34 ∷ [])
quoted_same s fields field [] open' = rw (closed_at_end s open') (last_quote fields field)
quoted_same s fields field (c ∷ line) open' =
    let x = step default_config s c in
    let on = goes_on_open (is_end x.1) line (shape x.0 line) open' in
    step_goes_on s c fields field line on.0 ∙ quoted_same x.0 (fields_after x.1 fields field) (field_after x.1 c field) line on.1 ∙ sym (step_goes_on s c fields field (line ++ 34 ∷ []) on.0)

records_same : (n : ℕ) (line : List ℕ) → shape st.StartRecord line ≡ Open → records_from default_config n st.StartRecord line ≡ records_from default_config n st.StartRecord (line ++ 34 ∷ [])
unfolding records_from
records_same zero line open' = refl
records_same (suc n) line open' = ap (records_next (records_from default_config n)) (quoted_same st.StartRecord [] [] line open')

-- A line with a second record.

not_second : (b : Bool) → shape_at_end b ≡ Second → ⊥
not_second true e = cc
not_second false e = cc

not_all : (b : Bool) → (if b then Closed else Second) ≡ Second → b ≡ false
not_all true e = cc
not_all false e = refl

rest_second : (b : Bool) (rest more : Shape) → b ≡ true → (if b then rest else more) ≡ Second → rest ≡ Second
rest_second true rest more e h = h
rest_second false rest more e h = cc

more_second : (b : Bool) (rest more : Shape) → b ≡ false → (if b then rest else more) ≡ Second → more ≡ Second
more_second true rest more e h = cc
more_second false rest more e h = h

-- what is read first of it, where more follows
record IsFirst (s : State) (fields : Fields) (field line : List ℕ) (p : Read) : Type 0 where
  next : next_record default_config s fields field line ≡ Some p
  out : ends_at_end p.1 ≡ false
  within : NoEnd p.2
  more : list_all (λ b. b == 13) p.2 ≡ false

abbrev First : State → Fields → List ℕ → List ℕ → Type 0
First s fields field line = (p : Read) × IsFirst s fields field line p

first_of : (s : State) (fields : Fields) (field line : List ℕ) → NoEnd line → is_within s ≡ true → shape s line ≡ Second → First s fields field line
first_of s fields field [] end within second = absurd (not_second (is_quoted s) second)
first_of s fields field (c ∷ line) end within second =
    let x = step default_config s c in
    let tail = All-tail (λ b. (b == 10) ≡ false) c line end in
    elim (steps_of s within c (All-head (λ b. (b == 10) ≡ false) c line end)) as (λ _. First s fields field (c ∷ line)) [
      | inl ends ↦
          let some = not_all (list_all (λ b. b == 13) line) (rest_second (is_end x.1) (shape_of_rest line) (shape x.0 line) ends.0 second) in
          ((fields_after x.1 fields field, x.0, line), record { next = step_ends s c fields field line ends.0; out = ends.1; within = tail; more = some })
      | inr on ↦
          let left = more_second (is_end x.1) (shape_of_rest line) (shape x.0 line) on.0 second in
          let more = first_of x.0 (fields_after x.1 fields field) (field_after x.1 c field) line tail on.1 left in
          (more.0, record { next = step_goes_on s c fields field line on.0 ∙ more.1.next; out = more.1.out; within = more.1.within; more = more.1.more })
    ]

first_is : (xs : List ℕ) (s : State) (line : List ℕ) (p : Read) → next_record default_config st.StartRecord [] [] xs ≡ next_record default_config s [] [] line → IsFirst s [] [] line p → IsFirst st.StartRecord [] [] xs p
first_is xs s line p e is = record { next = e ∙ is.next; out = is.out; within = is.within; more = is.more }

first_of_line : (line : List ℕ) → NoEnd line → shape st.StartRecord line ≡ Second → First st.StartRecord [] [] line
first_of_line [] end second = absurd (not_second false second)
first_of_line (c ∷ line) end second = by (c == 13) refl (first_of_line line (All-tail (λ b. (b == 10) ≡ false) c line end))
  where
    by : (return : Bool) → (c == 13) ≡ return → (shape st.StartRecord line ≡ Second → First st.StartRecord [] [] line) → First st.StartRecord [] [] (c ∷ line)
    by true e later =
        let more = later (rw (eqb-true c 13 e) at second) in
        let passes : next_record default_config st.StartRecord [] [] (c ∷ line) ≡ next_record default_config st.StartRecord [] [] line = rw (eqb-true c 13 e) (passes_return line) in
        (more.0, first_is (c ∷ line) st.StartRecord line more.0 passes more.1)
    by false e later =
        let head = All-head (λ b. (b == 10) ≡ false) c line end in
        let first = first_of st.StartField [] [] (c ∷ line) end refl (sym (shape_begins c line e head) ∙ second) in
        (first.0, first_is (c ∷ line) st.StartField (c ∷ line) first.0 (starts_field c line e head) first.1)

after_return : (c : ℕ) (xs : List ℕ) → (c == 10) ≡ false → next_record default_config st.AfterCr [] [] (c ∷ xs) ≡ next_record default_config st.StartRecord [] [] (c ∷ xs)
unfolding next_record
after_return c xs e = rw e refl

begun_again : (s : State) → ends_at_end s ≡ false → (xs : List ℕ) → NoEnd xs → list_all (λ b. b == 13) xs ≡ false → (p : Read) × (next_record default_config s [] [] xs ≡ Some p)
begun_again st.StartRecord out xs end some = begun xs end some
begun_again st.AfterCr out [] end some = cc
begun_again st.AfterCr out (c ∷ xs) end some =
    let first = begun (c ∷ xs) end some in
    (first.0, after_return c xs (All-head (λ b. (b == 10) ≡ false) c xs end) ∙ first.1)
begun_again st.StartField out xs end some = cc
begun_again st.InField out xs end some = cc
begun_again st.InQuoted out xs end some = cc
begun_again st.AfterQuote out xs end some = cc
begun_again st.InEscape out xs end some = cc
begun_again st.InComment out xs end some = cc

two_records : (n : ℕ) (line : List ℕ) (p q : Read) → next_record default_config st.StartRecord [] [] line ≡ Some p → next_record default_config p.1 [] [] p.2 ≡ Some q
    → records_from default_config (suc (suc n)) st.StartRecord line ≡ p.0 ∷ q.0 ∷ records_from default_config n q.1 q.2
unfolding records_from
two_records n line p q first second = rw (first, second) refl

long_enough : (line : List ℕ) → shape st.StartRecord line ≡ Second → 1 ≤ length line
long_enough [] second = absurd (not_second false second)
long_enough (c ∷ line) second = omega arith

second_line : (line : List ℕ) → NoEnd line → shape st.StartRecord (strip_bom line) ≡ Second → record_of_line line ≡ None ∷ []
unfolding record_of_line
second_line line end second =
    let bare = strip_bom line in
    let first = first_of_line bare (stripped line end) second in
    let p = first.0 in
    let again = begun_again p.1 first.1.out p.2 first.1.within first.1.more in
    let long = long_enough bare second in
    let n = length bare - 1 in
    let fuel : length bare + 1 ≡ suc (suc n) = omega arith in
    ap (λ (k : ℕ). record_of (records_from default_config k st.StartRecord bare)) fuel ∙ ap record_of (two_records n bare p again.0 first.1.next again.1)

-- What a line adds, and what the reader finds in that.

record Given (line end : List ℕ) (found : List Fields) : Type 0 where
  few : length found ≤ 1
  some : 1 ≤ length end
  single : record_of_line line ≡ map Some found
  first : (n : ℕ) (tail : List ℕ) → records_from default_config (length found + n) st.StartRecord (strip_bom line ++ (end ++ tail)) ≡ found ++ records_from default_config n st.StartRecord tail

closed_line : (line : List ℕ) → NoEnd line → shape st.StartRecord (strip_bom line) ≡ Closed → (found : List Fields) × Given line (10 ∷ []) found
unfolding record_of_line
closed_line line end closed =
    let bare = strip_bom line in
    let is = spent bare (stripped line end) closed in
    let few = is.1.few in (
      is.0,
      record {
        few = few;
        some = omega arith;
        single = ap record_of (spent_all (length bare + 1) bare is.0 is.1 (omega arith)) ∙ record_of_few is.0 few;
        first = λ n tail. is.1.first n (Some tail);
      },
    )

open_line : (line : List ℕ) → NoEnd line → shape st.StartRecord (strip_bom line) ≡ Open → (found : List Fields) × Given line (34 ∷ 10 ∷ []) found
unfolding record_of_line
open_line line end open' =
    let bare = strip_bom line in
    let quoted = bare ++ 34 ∷ [] in
    let whole = All-append (λ b. (b == 10) ≡ false) bare (34 ∷ []) (stripped line end) (All-cons (λ b. (b == 10) ≡ false) 34 [] refl (All-nil (λ b. (b == 10) ≡ false))) in
    let is = spent quoted whole (closing st.StartRecord bare open') in
    let few = is.1.few in (
      is.0,
      record {
        few = few;
        some = omega arith;
        single = ap record_of (records_same (length bare + 1) bare open' ∙ spent_all (length bare + 1) quoted is.0 is.1 (omega arith)) ∙ record_of_few is.0 few;
        first = λ n tail. ap (λ (xs : List ℕ). records_from default_config (length is.0 + n) st.StartRecord xs) (sym (append_assoc bare (34 ∷ []) (10 ∷ tail))) ∙ is.1.first n (Some tail);
      },
    )

end_is : (xs ys : List ℕ) → ◌≡◌ {A = Option (List ℕ)} (Some xs) (Some ys) → xs ≡ ys
end_is xs ys e = cc

given_line : (line end : List ℕ) → NoEnd line → end_of (shape st.StartRecord (strip_bom line)) ≡ Some end → (found : List Fields) × Given line end found
given_line line end within e = by (shape st.StartRecord (strip_bom line)) refl e
  where
    by : (s : Shape) → shape st.StartRecord (strip_bom line) ≡ s → end_of s ≡ Some end → (found : List Fields) × Given line end found
    by Closed is e' = subst (λ (xs : List ℕ). (found : List Fields) × Given line xs found) (end_is (10 ∷ []) end e') (closed_line line within is)
    by Open is e' = subst (λ (xs : List ℕ). (found : List Fields) × Given line xs found) (end_is (34 ∷ 10 ∷ []) end e') (open_line line within is)
    by Second is e' = cc

-- The bytes so far: a byte order mark, which a reader passes over, and then lines in which it finds the first records of a text.

pub record IsBody (text bytes body : List ℕ) (done : List Fields) (rest : Option (List ℕ)) : Type 0 where
  pub marked : bytes ≡ 239 ∷ 187 ∷ 191 ∷ body
  pub records : records_of text ≡ map Some done ++ records_left rest
  pub few : length done ≤ length body
  pub first : (n : ℕ) (tail : List ℕ) → records_from default_config (length done + n) st.StartRecord (body ++ tail) ≡ done ++ records_from default_config n st.StartRecord tail

abbrev pub Leads : List ℕ → List ℕ → Option (List ℕ) → Type 0
Leads text bytes rest = (body : List ℕ) × (done : List Fields) × IsBody text bytes body done rest

longer : (text bytes body line end left : List ℕ) (done found : List Fields) (more : Option (List ℕ)) → slice_split (λ b. b == 10) left ≡ line ∷ lines_left more
    → IsBody text bytes body done (Some left) → Given line end found → IsBody text (bytes ++ strip_bom line ++ end) (body ++ strip_bom line ++ end) (done ++ found) more
longer text bytes body line end left done found more split is given =
    let bare = strip_bom line in
    let size : length (done ++ found) ≡ length done + length found = length-append done found in
    let room : length (body ++ bare ++ end) ≡ length body + length bare + length end = length-append (body ++ bare) end ∙ ap (λ (k : ℕ). k + length end) (length-append body bare) in
    let one = given.few in
    let some = given.some in
    let few = is.few in
    record {
      marked = ap (λ (xs : List ℕ). xs ++ bare ++ end) is.marked;
      records = is.records ∙ ap (λ (rs : List Record). map Some done ++ rs) (next line left more split ∙ ap (λ (rs : List Record). rs ++ records_left more) given.single)
          ∙ sym (append_assoc (map Some done) (map Some found) (records_left more)) ∙ ap (λ (rs : List Record). rs ++ records_left more) (sym (map-append Some done found));
      few = omega arith;
      first = λ n tail.
          let fuel : length (done ++ found) + n ≡ length done + (length found + n) = omega (arith, size) in
          ap (λ (k : ℕ). records_from default_config k st.StartRecord (body ++ bare ++ end ++ tail)) fuel
          ∙ ap (λ (xs : List ℕ). records_from default_config (length done + (length found + n)) st.StartRecord xs) (append_assoc (body ++ bare) end tail ∙ append_assoc body bare (end ++ tail))
          ∙ is.first (length found + n) (bare ++ (end ++ tail))
          ∙ ap (λ (rs : List Fields). done ++ rs) (given.first n tail)
          ∙ sym (append_assoc done found (records_from default_config n st.StartRecord tail));
    }

pub line_added : (text bytes new line left : List ℕ) (more : Option (List ℕ)) → slice_split (λ b. b == 10) left ≡ line ∷ lines_left more
    → Leads text bytes (Some left) → with_line bytes line ≡ Some new → Leads text new more
line_added text bytes new line left more split leads e = by (end_of (shape st.StartRecord (strip_bom line))) refl e
  where
    by : (end : Option (List ℕ)) → end_of (shape st.StartRecord (strip_bom line)) ≡ end → option_map (λ (xs : List ℕ). bytes ++ strip_bom line ++ xs) end ≡ Some new → Leads text new more
    by None is e' = cc
    by (Some end) is e' =
        let given = given_line line end (line_within left line (lines_left more) split) is in
        subst (λ (xs : List ℕ). Leads text xs more) (end_is (bytes ++ strip_bom line ++ end) new e')
        (leads.0 ++ strip_bom line ++ end, leads.1 ++ given.0, longer text bytes leads.0 line end left leads.1 given.0 more split leads.2 given.1)

found_in : (text bytes body : List ℕ) (done : List Fields) (rest : Option (List ℕ)) → IsBody text bytes body done rest → records default_config (strip_bom bytes) ≡ done
unfolding strip_bom
found_in text bytes body done rest is =
    let few = is.few in
    let n = length body + 1 - length done in
    let fuel : length body + 1 ≡ length done + n = omega arith in
    ap (λ (xs : List ℕ). records default_config (strip_bom xs)) is.marked
    ∙ ap (λ (k : ℕ). records_from default_config k st.StartRecord body) fuel
    ∙ ap (λ (xs : List ℕ). records_from default_config (length done + n) st.StartRecord xs) (sym (append-nil body))
    ∙ is.first n [] ∙ ap (λ (rs : List Fields). done ++ rs) (nothing_left n) ∙ append-nil done

no_end : (s : Shape) (bytes line : List ℕ) → option_map (λ (xs : List ℕ). bytes ++ line ++ xs) (end_of s) ≡ None → s ≡ Second
no_end Closed bytes line e = cc
no_end Open bytes line e = cc
no_end Second bytes line e = refl

pub body_cut : (text bytes line left : List ℕ) (more : Option (List ℕ)) → slice_split (λ b. b == 10) left ≡ line ∷ lines_left more
    → Leads text bytes (Some left) → with_line bytes line ≡ None → Begins text (strip_bom bytes) true
body_cut text bytes line left more split leads e =
    let is = leads.2 in
    let second = second_line line (line_within left line (lines_left more) split) (no_end (shape st.StartRecord (strip_bom line)) bytes (strip_bom line) e) in (
      records_left more,
      is.records ∙ ap (λ (rs : List Record). map Some leads.1 ++ rs) (next line left more split ∙ ap (λ (rs : List Record). rs ++ records_left more) second)
          ∙ ap (λ (rs : List Fields). map Some rs ++ None ∷ records_left more) (sym (found_in text bytes leads.0 leads.1 (Some left) is)),
    )

pub body_ends : (text bytes : List ℕ) → Leads text bytes None → Begins text (strip_bom bytes) false
body_ends text bytes leads =
    let is = leads.2 in
    ([], is.records ∙ ap (λ (rs : List Fields). map Some rs ++ []) (sym (found_in text bytes leads.0 leads.1 None is)))
