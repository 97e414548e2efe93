-- From line to line of a file: what the records that are left give, for `close_lines` and for faults' lines.
use Rattle.std.proofs.Common.{◌≡◌, ◌+◌, ◌<◌, ◌≤◌, ℕ, List, [], ◌∷◌, ◌++◌, length, map, drop, get_or, zero, suc, Option, Some, None, Result, Ok, Err, refl, ap, sym, ◌∙◌, arith, Bor}
use Rattle.std.specs.Prelude.{◌-◌, ◌==◌, IfSome, slice_index_or}
use Rattle.std.specs.List.{flat_map, slice_split}
use Rattle.std.proofs.lemmas.List.{get_or-drop}
use Rattle.mgn_setfile.specs.declared.draft.Draft.{Draft}
use Rattle.mgn_params.specs.Tables.{Tables}
use Rattle.mgn_setfile.specs.Fields.{Fields, Flaw}
use Rattle.mgn_setfile.specs.File.{Record, drafted, judged, later_of, line_of_record, numbered, record_of_line, records_of, version_by, version_left}
use Rattle.mgn_setfile.specs.Words.{numbered_record}
use Rattle.mgn_setfile.specs.Lines.{lines_left}

-- the records of what is left of a file
abbrev pub records_left : Option (List ℕ) → List Record
records_left None = []
records_left (Some rest) = records_of rest

rest_of : (more : Option (List ℕ)) → flat_map record_of_line (lines_left more) ≡ records_left more
rest_of None = refl
rest_of (Some rest) = refl

pub next : (line left : List ℕ) (more : Option (List ℕ)) → slice_split (λ b. b == 10) left ≡ line ∷ lines_left more → records_of left ≡ record_of_line line ++ records_left more
next line left more e = rw (e, ← rest_of more) refl

-- the version, from line to line

keeps_version : (version : ℕ) (now : Result Tables Flaw) (draft : Draft) → drafted version now ≡ Ok draft → Some version ≡ Some draft.version
keeps_version version (Ok t) draft e = cc
keeps_version version (Err fault) draft e = cc

pub version_of_one : (before : Option Draft) (f : Fields) (rs : List Record) (draft : Draft) → judged before (Some f) ≡ Ok draft → version_left (Some f ∷ rs) before ≡ Some draft.version
unfolding judged
version_of_one None f rs draft j = ap version_by j
version_of_one (Some before) f rs draft j = keeps_version before.version (later_of before.version before.set f) draft j

-- From line to line: the numbers of the lines that have the records that are left.

abbrev pub numbers_left : ℕ → Option (List ℕ) → List ℕ
numbers_left before None = []
numbers_left before (Some rest) = numbered before (slice_split (λ b. b == 10) rest)

numbers_rest : (before : ℕ) (more : Option (List ℕ)) → numbered before (lines_left more) ≡ numbers_left before more
numbers_rest before None = refl
numbers_rest before (Some rest) = refl

pub numbers_next : (before : ℕ) (line left : List ℕ) (more : Option (List ℕ)) → slice_split (λ b. b == 10) left ≡ line ∷ lines_left more
    → numbered before (slice_split (λ b. b == 10) left) ≡ map (λ _. before + 1) (record_of_line line) ++ numbers_left (before + 1) more
numbers_next before line left more e = rw (e, ← numbers_rest (before + 1) more) refl

-- the number that comes next in a list, and those after it
next_is : {A : Type 0} (xs rest : List A) (k : ℕ) (x d : A) → drop k xs ≡ x ∷ rest → slice_index_or xs k d ≡ x
next_is {A} xs rest k x d e =
    let place : k + 0 ≡ k = omega arith in
    rw place at (sym (get_or-drop k xs 0 d)) ∙ ap (λ (ys : List A). get_or ys 0 d) e

pub after_next : {A : Type 0} (k : ℕ) (xs rest : List A) (x : A) → drop k xs ≡ x ∷ rest → drop (k + 1) xs ≡ rest
after_next zero xs rest x e = ap (drop 1) e
after_next (suc k) [] rest x e = cc
after_next (suc k) (y ∷ xs) rest x e =
    let more : suc k + 1 ≡ suc (k + 1) = omega arith in
    rw more (after_next k xs rest x e)

pub line_is : (file rest : List ℕ) (count line : ℕ) → drop count (numbered 0 (slice_split (λ b. b == 10) file)) ≡ line ∷ rest → line ≡ line_of_record file (count + 1)
line_is file rest count line e =
    let place : count + 1 - 1 ≡ count = omega arith in
    rw place (sym (next_is (numbered 0 (slice_split (λ b. b == 10) file)) rest count line 1 e))

-- the record that comes next

pub record_is : (records rest : List Record) (count : ℕ) (r : Record) → drop count records ≡ r ∷ rest → numbered_record records (count + 1) ≡ r
record_is records rest count r e =
    let place : count + 1 - 1 ≡ count = omega arith in
    rw place (next_is records rest count r None e)

-- how much of a file is left, at most
abbrev pub left_of : Option (Bor (List ℕ)) → ℕ
left_of None = 0
left_of (Some rest) = length rest.now + 1

pub less : (more : Option (Bor (List ℕ))) (n : ℕ) → IfSome more (λ rest. length rest.now < n) → left_of more ≤ n
less None n h = omega arith
less (Some rest) n h = omega arith
