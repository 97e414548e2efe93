use Rattle.std.proofs.Common.{◌≡◌, ◌≢◌, ℕ, ◌+◌, ◌-◌, ◌<◌, ◌≤◌, ◌++◌, ◌∷◌, [], Err, Ok, cond, nat_le, take, List, length, drop, replicate, arith, length-append, length-drop, false, true, refl, sym, ◌∙◌, ap, ⊎_elim}
use Rattle.std.specs.List.{count_by, list_all, sum_by}
use Rattle.std.proofs.lemmas.Bool.{cases_Bool, false≢true}
use Rattle.std.proofs.lemmas.Bool.Decides.{nat_tests}
use Rattle.std.proofs.lemmas.List.{drop-replicate}
use Rattle.std.proofs.lemmas.List.Folds.{sum_by-replicate}
use Rattle.std.proofs.lemmas.List.Sums.{count_by-le-length, sum_by-append, sum_by-cons}
use Rattle.std.proofs.Math.Seq.{take-append_seam, drop-append_seam}
use Rattle.mgn_ids.specs.Name.{IsNameRow, is_name_byte, name_in}
use Rattle.mgn_ids.specs.declared.fault.IdFault.TheVariants.{Syntax}
use Rattle.mgn_ids.proofs.name.Name.read.Goals as goal
use Rattle.mgn_ids.proofs.name.Name.read.Goals.{then-len-eq0-via-then-len-eq0, then-len-eq0-via-else-len-eq0+then-from-len}

-- a row of zeros with a name written over its start
row_after : (name zeros : List ℕ) → zeros ≡ replicate 16 0 → 0 < length name → length name ≤ 16 → list_all is_name_byte name ≡ true → IsNameRow (name ++ drop (length name) zeros) (length name)
row_after name zeros are some few right = record {
  some = some;
  few = few;
  all = let sixteen : length zeros ≡ 16 = rw are refl in omega (arith, length-append name (drop (length name) zeros), length-drop (length name) zeros);
  zeros = drop-append_seam name (drop (length name) zeros) ∙ ap (λ (xs : List ℕ). drop (length name) xs) are ∙ drop-replicate {X = ℕ} (length name) 16 0;
  right = rw (take-append_seam name (drop (length name) zeros)) right;
}

-- the zeros behind a word are no bytes of a name
count_is : (word zeros : List ℕ) → zeros ≡ replicate 16 0 → count_by is_name_byte (word ++ drop (length word) zeros) ≡ count_by is_name_byte word
count_is word zeros are =
    let share : ℕ → ℕ = λ b. cond (is_name_byte b) 1 0 in
    let rest : drop (length word) zeros ≡ replicate (16 - length word) 0 =
    ap (λ (xs : List ℕ). drop (length word) xs) are ∙ drop-replicate {X = ℕ} (length word) 16 0
    in
    let none : sum_by share (drop (length word) zeros) ≡ 0 = rw rest (sum_by-replicate share (16 - length word) 0 ∙ omega arith) in
    omega (arith, none, sum_by-append share word (drop (length word) zeros))

-- the bytes of a name in a word that begins with one, or with another byte
count_more : (b : ℕ) (bs : List ℕ) → count_by is_name_byte (b ∷ bs) ≡ cond (is_name_byte b) 1 0 + count_by is_name_byte bs
count_more b bs = sum_by-cons (λ (x : ℕ). cond (is_name_byte x) 1 0) b bs

-- as many bytes of a name as there are bytes: all
all_from_count : (word : List ℕ) → count_by is_name_byte word ≡ length word → list_all is_name_byte word ≡ true
all_from_count [] e = refl
all_from_count (b ∷ bs) e =
    let few : count_by is_name_byte bs ≤ length bs = count_by-le-length is_name_byte bs in
    let sum : cond (is_name_byte b) 1 0 + count_by is_name_byte bs ≡ length (b ∷ bs) = sym (count_more b bs) ∙ e in
    let long : length (b ∷ bs) ≡ 1 + length bs = omega arith in
    ⊎_elim
    (λ (yes : is_name_byte b ≡ true).
    let more : 1 + count_by is_name_byte bs ≡ length (b ∷ bs) = rw yes at sum in
    rw (yes, all_from_count bs (omega (arith, more, long))) refl)
    (λ (no : is_name_byte b ≡ false).
    let less : 0 + count_by is_name_byte bs ≡ length (b ∷ bs) = rw no at sum in
    absurd (omega (arith, less, few, long)))
    (cases_Bool (is_name_byte b))

count_from_all : (word : List ℕ) → list_all is_name_byte word ≡ true → count_by is_name_byte word ≡ length word
count_from_all [] e = refl
count_from_all (b ∷ bs) e =
    ⊎_elim
    (λ (yes : is_name_byte b ≡ true).
    let more : list_all is_name_byte bs ≡ true = rw yes at e in
    let one : cond (is_name_byte b) 1 0 + count_by is_name_byte bs ≡ 1 + count_by is_name_byte bs = rw yes refl in
    let long : length (b ∷ bs) ≡ 1 + length bs = omega arith in
    count_more b bs ∙ one ∙ omega (arith, long, count_from_all bs more))
    (λ (no : is_name_byte b ≡ false).
    let wrong : false ≡ true = rw no at e in
    absurd (false≢true wrong))
    (cases_Bool (is_name_byte b))

wrong_name : (word : List ℕ) → count_by is_name_byte word ≢ length word → Err Syntax ≡ name_in word
unfolding name_in
wrong_name [] other = refl
wrong_name (b ∷ bs) other =
    ⊎_elim
    (λ (yes : list_all is_name_byte (b ∷ bs) ≡ true). absurd (other (count_from_all (b ∷ bs) yes)))
    (λ (no : list_all is_name_byte (b ∷ bs) ≡ false). rw no refl)
    (cases_Bool (list_all is_name_byte (b ∷ bs)))

-- a row of zeros with a word over its start, in which as many bytes are a name's as the word has
full_is : (word row zeros : List ℕ) (n : ℕ) → zeros ≡ replicate 16 0 → row ≡ word → n ≡ count_by is_name_byte (row ++ drop (length word) zeros) → n ≡ count_by is_name_byte word
full_is word row zeros n are same counted =
    counted ∙ ap (λ (xs : List ℕ). count_by is_name_byte (xs ++ drop (length word) zeros)) same ∙ count_is word zeros are

empty_is : (word : List ℕ) → length word ≡ 0 → Err Syntax ≡ name_in word
unfolding name_in
empty_is [] e = refl
empty_is (b ∷ bs) e = absurd (omega (arith, e))

pub returns-then-len-eq0 : goal.returns-then-len-eq0
returns-then-len-eq0 c =
    elim c.then-len-eq0.branch [
      | then-len-eq0-via-then-len-eq0 w ↦ empty_is c.args.word.now w.if-len-eq0.true
      | then-len-eq0-via-else-len-eq0+then-from-len w ↦
          let counted = full_is c.args.word.now _ _ w.count_name_bytes.result refl c.copy_from_slice.ensures.after w.count_name_bytes.ensures in
          wrong_name c.args.word.now (λ full. w.if-from-len.true (w.from.ensures ∙ counted ∙ full))
    ]

pub invariant_of-result : goal.invariant_of-result
invariant_of-result c =
    let counted = full_is c.args.word.now _ _ c.count_name_bytes.result refl c.copy_from_slice.ensures.after c.count_name_bytes.ensures in
    let full : count_by is_name_byte c.args.word.now ≡ length c.args.word.now = sym counted ∙ sym c.from.ensures ∙ c.if-from-len.false in
    rw c.copy_from_slice.ensures.after (row_after c.args.word.now _ refl (grind (arith, nat_tests)) c.if-len-gt16.false (all_from_count c.args.word.now full))

right_name : (word row zeros : List ℕ) → row ≡ word → 0 < length word → length word ≤ 16 → list_all is_name_byte word ≡ true → Ok (take (length word) (row ++ drop (length word) zeros)) ≡ name_in word
unfolding name_in
right_name [] row zeros same some few right = absurd (omega (arith, some))
right_name (b ∷ bs) row zeros same some few right =
    let inside : nat_le (length (b ∷ bs)) 16 ≡ true = grind (arith, nat_tests) in
    rw (same, right, inside, take-append_seam (b ∷ bs) (drop (length (b ∷ bs)) zeros)) refl

pub returns : goal.returns
returns c =
    let counted = full_is c.args.word.now _ _ c.count_name_bytes.result refl c.copy_from_slice.ensures.after c.count_name_bytes.ensures in
    let full : count_by is_name_byte c.args.word.now ≡ length c.args.word.now = sym counted ∙ sym c.from.ensures ∙ c.if-from-len.false in
    right_name c.args.word.now _ _ c.copy_from_slice.ensures.after (grind (arith, nat_tests)) c.if-len-gt16.false (all_from_count c.args.word.now full)
