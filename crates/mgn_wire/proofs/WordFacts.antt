-- The words of a line: how `split_words` cuts them, and which lines `read_line` makes of them.
use Rattle.std.proofs.Common.{◌≡◌, ℕ, ◌+◌, ◌-◌, ◌<◌, ◌≤◌, List, [], ◌∷◌, ◌++◌, length, take, drop, get_or, Result, Err, Bool, true, false, cond, refl, arith, inl, inr, lt-ltb, append_assoc, append-nil, length-append, length-drop, map, Bor}
use Rattle.std.specs.Prelude.{nat_lt, ◌⊎◌, ◌==◌, ◌&&◌}
use Rattle.std.specs.List.{position_or_len}
use Rattle.std.proofs.lemmas.Bool.Decides.{nat_tests}
use Rattle.std.proofs.lemmas.List.Splits.{slice_split_first, slice_split_none, length-slice_split}
use Rattle.std.proofs.lemmas.List.Sums.{position_or_len_is}
use Rattle.std.proofs.lemmas.List.Elements.{All-from_get_or}
use Rattle.std.proofs.lemmas.List.{get_or-drop, drop-drop, take_all, take_more_set, map-append}
use Rattle.std.proofs.lemmas.List.Folds.{list_all-append}
use Rattle.std.proofs.Math.ListN.{set}
use Rattle.mgn_wire.specs.Word.{words_of}
use Rattle.mgn_wire.specs.Line.{all_filled, line_in, line_of}
use Rattle.mgn_wire.specs.declared.line.Line.{Line}
use Rattle.mgn_wire.specs.declared.fault.LineFault.{LineFault}
use Rattle.mgn_ids.specs.declared.fault.IdFault.TheVariants.{Syntax}
use Rattle.mgn_wire.specs.declared.fault.LineFault.TheVariants as fault

-- cutting at a space, and at the end

pub cut_at : (line : List ℕ) (start i : ℕ) → start ≤ i → i < length line → ((k : ℕ) → start ≤ k → k < i → (get_or line k 0 == 32) ≡ false) → get_or line i 0 ≡ 32
    → words_of (drop start line) ≡ take (i - start) (drop start line) ∷ words_of (drop (i + 1) line)
cut_at line start i begun inside clear here =
    let left = drop start line in
    let size : length left ≡ length line - start = length-drop start line in
    let place : start + (i - start) ≡ i = omega arith in
    let at : position_or_len (λ b. b == 32) left ≡ i - start = position_or_len_is (λ b. b == 32) left (i - start) 0 (omega arith)
    (λ k low. rw get_or-drop (clear (start + k) (omega arith) (omega arith)))
    (λ _. rw (get_or-drop, place, here) refl) in
    let cut = slice_split_first (λ b. b == 32) left 0 (rw at (omega arith)) in
    let after : start + (i - start + 1) ≡ i + 1 = omega arith in
    let rest : drop (i - start + 1) left ≡ drop (i + 1) line = rw (drop-drop, after) refl in
    rw rest at (rw at at cut)

pub cut_last : (line : List ℕ) (start : ℕ) → start ≤ length line → ((k : ℕ) → start ≤ k → k < length line → (get_or line k 0 == 32) ≡ false)
    → words_of (drop start line) ≡ take (length line - start) (drop start line) ∷ []
cut_last line start begun clear =
    rw (take_all (length line - start) (drop start line) (omega (arith, length-drop start line)))
    (slice_split_none (λ b. b == 32) (drop start line) (All-from_get_or (λ b. (b == 32) ≡ false) (drop start line) 0
    (λ k inside. rw get_or-drop (clear (start + k) (omega arith) (omega (arith, length-drop start line))))))

-- the words so far, and one more

one_more : (items : List (Bor (List ℕ))) (item : Bor (List ℕ)) (count : ℕ) → count < length items
    → map (λ s. s.now) (take (count + 1) (set items count item)) ≡ map (λ s. s.now) (take count items) ++ item.now ∷ []
one_more items item count inside = rw (take_more_set items count item inside) (simp map-append)

pub more_words : (items : List (Bor (List ℕ))) (item : Bor (List ℕ)) (count : ℕ) (left rest words : List (List ℕ)) → count < length items
    → map (λ s. s.now) (take count items) ++ left ≡ words → left ≡ item.now ∷ rest → map (λ s. s.now) (take (count + 1) (set items count item)) ++ rest ≡ words
more_words items item count left rest words inside so_far cut =
    rw (one_more items item count inside) (simp append_assoc (rw cut at so_far))

pub more_filled : (items : List (Bor (List ℕ))) (item : Bor (List ℕ)) (count : ℕ) → count < length items
    → all_filled (map (λ s. s.now) (take count items)) ≡ true → 0 < length item.now → all_filled (map (λ s. s.now) (take (count + 1) (set items count item))) ≡ true
more_filled items item count inside filled some =
    rw (one_more items item count inside, list_all-append, filled, lt-ltb 0 (length item.now) some) refl

pub last_word : (items : List (Bor (List ℕ))) (item : Bor (List ℕ)) (count : ℕ) (left words : List (List ℕ)) → count ≤ 5 → count < length items
    → map (λ s. s.now) (take count items) ++ left ≡ words → left ≡ item.now ∷ [] → all_filled (map (λ s. s.now) (take count items)) ≡ true → 0 < length item.now
    → (count + 1 ≤ 6) × (map (λ s. s.now) (take (count + 1) (set items count item)) ≡ words) × (all_filled words ≡ true)
last_word items item count left words few inside so_far cut filled some =
    let whole : map (λ s. s.now) (take (count + 1) (set items count item)) ≡ words = rw append-nil at (more_words items item count left [] words inside so_far cut) in
    (omega arith, whole, rw whole at (more_filled items item count inside filled some))

both : (b : Bool) → b && false ≡ false
both true = refl
both false = refl

pub empty_found : (front later words : List (List ℕ)) (word : List ℕ) → front ++ (word ∷ later) ≡ words → length word ≤ 0 → all_filled words ≡ false
empty_found front later words [] e none = rw (← e, list_all-append) (both (all_filled front))
empty_found front later words (x ∷ xs) e none = absurd (omega arith)

pub seventh_left : (front words : List (List ℕ)) (word rest : List ℕ) → front ++ (word ∷ words_of rest) ≡ words → length front ≡ 5 → 6 < length words
seventh_left front words word rest e five =
    rw (← e) (omega (arith, length-append front (word ∷ words_of rest), length-slice_split (λ b. b == 32) rest))

-- the line of these words

short : (n : ℕ) → n ≤ 256 → nat_lt 256 n ≡ false
short n few = grind (arith, nat_tests)

too_many : (words : List (List ℕ)) → 6 < length words → line_in words ≡ Err Syntax
unfolding line_in
too_many [] many = refl
too_many (verb ∷ []) many = absurd (omega arith)
too_many (verb ∷ a ∷ []) many = absurd (omega arith)
too_many (verb ∷ a ∷ b ∷ []) many = absurd (omega arith)
too_many (verb ∷ a ∷ b ∷ c ∷ []) many = absurd (omega arith)
too_many (verb ∷ a ∷ b ∷ c ∷ d ∷ []) many = absurd (omega arith)
too_many (verb ∷ a ∷ b ∷ c ∷ d ∷ e ∷ []) many = absurd (omega arith)
too_many (verb ∷ a ∷ b ∷ c ∷ d ∷ e ∷ f ∷ more) many = refl

either : (b : Bool) (read : Result Line LineFault) → cond b read read ≡ read
either true read = refl
either false read = refl

pub line_refused : (line : List ℕ) → length line ≤ 256 → (all_filled (words_of line) ≡ false) ⊎ (6 < length (words_of line)) → line_of line ≡ Err fault.Syntax
line_refused line few (inl empty) = rw (short (length line) few, empty) refl
line_refused line few (inr many) = rw (short (length line) few, too_many (words_of line) many) (either (all_filled (words_of line)) (Err fault.Syntax))
