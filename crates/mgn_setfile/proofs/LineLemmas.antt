-- Lines without a record, and the lines of a text: for `cut_line`, and for readers of whole texts.
use Rattle.std.proofs.Common.{All, ◌≡◌, ◌==◌, ◌+◌, ◌<◌, ◌≤◌, ℕ, zero, suc, List, [], ◌∷◌, length, take, drop, Bool, true, false, Option, Some, None, refl, ⊎_elim, arith}
use Rattle.std.specs.Prelude.{position}
use Rattle.std.specs.List.{slice_split, position_or_len}
use Rattle.std.proofs.lemmas.Bool.{cases_lt, eqb-true, le-ltb, lt-ltb}
use Rattle.std.proofs.lemmas.List.Elements.{All-from_get_or, All-head, All-tail}
use Rattle.std.proofs.lemmas.List.Splits.{slice_split_first, slice_split_none}
use Rattle.std.proofs.lemmas.List.Sums.{AllPass-from_list_all, fails_before_first}
use Rattle.csv.specs.declared.parser.State.{State}
use Rattle.csv.specs.declared.parser.State.TheVariants as st
use Rattle.csv.specs.declared.reader.Reader.{Reader}
use Rattle.csv.specs.Machine.{next_record}
use Rattle.csv.specs.Reading.{default_config, records_from, source_of, strip_bom}
use Rattle.mgn_setfile.specs.Lines.{is_blank, line_records}

-- where the reads came to an end
pub none_left : (n : ℕ) (t : State) (ys : List ℕ) → next_record default_config t [] [] ys ≡ None → records_from default_config n t ys ≡ []
unfolding records_from
none_left zero t ys stop = refl
none_left (suc n) t ys stop = rw stop refl

-- carriage returns alone are no record
returns_alone : (n : ℕ) (line : List ℕ) → All (λ b. (b == 13) ≡ true) line → records_from default_config n st.StartRecord line ≡ []
unfolding records_from next_record
returns_alone zero line all = refl
returns_alone (suc n) [] all = refl
returns_alone (suc n) (b ∷ bs) all = rw (eqb-true b 13 (All-head (λ x. (x == 13) ≡ true) b bs all)) (returns_alone (suc n) bs (All-tail (λ x. (x == 13) ≡ true) b bs all))

pub blank_line : (line : List ℕ) → is_blank line ≡ true → line_records line ≡ []
blank_line line blank = returns_alone (length (strip_bom line) + 1) (strip_bom line) (AllPass-from_list_all (λ b. b == 13) (strip_bom line) blank)

-- a reader that has read nothing yet of these bytes
pub record IsFresh {R : Type 0} (rem : R → Option (List ℕ)) (reader : Reader R) (bytes : List ℕ) : Type 0 where
  pub config : reader.config ≡ default_config
  pub state : reader.state ≡ st.StartRecord
  pub source : source_of rem reader ≡ Some bytes

-- the lines of a text: what stands before the first end of line, and what follows it

abbrev pub first_cut : (ℕ → Bool) → List ℕ → Option ℕ → List (List ℕ)
first_cut p text None = text ∷ []
first_cut p text (Some at) = take at text ∷ slice_split p (drop (at + 1) text)

pub cut_first : (p : ℕ → Bool) (text : List ℕ) → slice_split p text ≡ first_cut p text (position p text)
cut_first p text =
    ⊎_elim
    (λ (found : position_or_len p text < length text). rw (lt-ltb (position_or_len p text) (length text) found) (slice_split_first p text 0 found))
    (λ (none : length text ≤ position_or_len p text). rw (le-ltb (position_or_len p text) (length text) none) (slice_split_none p text (All-from_get_or (λ x. p x ≡ false) text 0 (λ i h. fails_before_first p text i 0 (omega arith)))))
    (cases_lt (position_or_len p text) (length text))
