-- A text without quotes, carriage returns and byte order marks is plain: for `is_plain`.
use Rattle.std.proofs.Common.{◌≡◌, ℕ, List, [], ◌∷◌, Bool, true, false, refl, ap}
use Rattle.std.specs.Prelude.{◌==◌, ◌&&◌, not}
use Rattle.std.specs.List.{list_all, list_any, onto_first, slice_split}
use Rattle.std.proofs.lemmas.Bool.{and_from, and_parts, not_from_false, or_parts}
use Rattle.csv.specs.declared.parser.State.TheVariants as st
use Rattle.mgn_setfile.specs.Plain.{has_mark, is_bare_byte, is_bare_text, is_closed, is_plain, is_plain_line, shape}
use Rattle.mgn_setfile.proofs.ScanLemmas.{bare_line, none_of}

-- no byte of a line's end, and none that begins a mark

abbrev is_inner_byte : ℕ → Bool
is_inner_byte b = is_bare_byte b && not (b == 239)

abbrev is_inner : List ℕ → Bool
is_inner line = list_all is_inner_byte line

inner_byte : (b : ℕ) → (b == 34) ≡ false → (b == 13) ≡ false → (b == 239) ≡ false → (b == 10) ≡ false → is_inner_byte b ≡ true
inner_byte b quote return mark end = rw (quote, return, mark, end) refl

onto_line : (b : ℕ) (lines : List (List ℕ)) → is_inner_byte b ≡ true → list_all is_inner lines ≡ true → list_all is_inner (onto_first b lines) ≡ true
onto_line b [] one all = and_from (is_inner (b ∷ [])) true (and_from (is_inner_byte b) true one refl) refl
onto_line b (line ∷ lines) one all =
    let both = and_parts (is_inner line) (list_all is_inner lines) all in
    and_from (is_inner (b ∷ line)) (list_all is_inner lines) (and_from (is_inner_byte b) (is_inner line) one both.0) both.1

-- the lines of a text, by its first byte and the lines of the rest
more_lines : (b : ℕ) (text : List ℕ) → ((b == 10) ≡ false → is_inner_byte b ≡ true) → list_all is_inner (slice_split (λ x. x == 10) text) ≡ true → list_all is_inner (slice_split (λ x. x == 10) (b ∷ text)) ≡ true
more_lines b text one more = by (b == 10) refl
  where
    by : (end : Bool) → (b == 10) ≡ end → list_all is_inner (slice_split (λ x. x == 10) (b ∷ text)) ≡ true
    by true e = rw e more
    by false e = rw e (onto_line b (slice_split (λ x. x == 10) text) (one e) more)

inner_lines : (text : List ℕ) → list_any (λ b. b == 34) text ≡ false → list_any (λ b. b == 13) text ≡ false → list_any (λ b. b == 239) text ≡ false → list_all is_inner (slice_split (λ x. x == 10) text) ≡ true
inner_lines [] quotes returns marks = refl
inner_lines (b ∷ text) quotes returns marks =
    let quote = or_parts (b == 34) (list_any (λ x. x == 34) text) quotes in
    let return = or_parts (b == 13) (list_any (λ x. x == 13) text) returns in
    let mark = or_parts (b == 239) (list_any (λ x. x == 239) text) marks in
    more_lines b text (inner_byte b quote.0 return.0 mark.0) (inner_lines text quote.1 return.1 mark.1)

-- such a line is plain

bare_bytes : (line : List ℕ) → is_inner line ≡ true → list_all is_bare_byte line ≡ true
bare_bytes [] inner = refl
bare_bytes (b ∷ line) inner =
    let both = and_parts (is_inner_byte b) (is_inner line) inner in
    let byte = and_parts (is_bare_byte b) (not (b == 239)) both.0 in
    and_from (is_bare_byte b) (list_all is_bare_byte line) byte.0 (bare_bytes line both.1)

not_true : (x : Bool) → not x ≡ true → x ≡ false
not_true true e = cc
not_true false e = refl

no_mark : (line : List ℕ) → is_inner line ≡ true → has_mark line ≡ false
no_mark [] inner = refl
no_mark (a ∷ []) inner = refl
no_mark (a ∷ b ∷ []) inner = refl
no_mark (a ∷ b ∷ c ∷ line) inner =
    let first = and_parts (is_inner_byte a) (is_inner (b ∷ c ∷ line)) inner in
    let byte = and_parts (is_bare_byte a) (not (a == 239)) first.0 in
    rw (not_true (a == 239) byte.1) refl

plain_line : (line : List ℕ) → is_inner line ≡ true → is_plain_line line ≡ true
plain_line line inner =
    and_from (not (has_mark line)) (is_closed (shape st.StartRecord line)) (not_from_false (has_mark line) (no_mark line inner)) (ap is_closed (bare_line line (bare_bytes line inner)))

plain_lines : (lines : List (List ℕ)) → list_all is_inner lines ≡ true → list_all is_plain_line lines ≡ true
plain_lines [] inner = refl
plain_lines (line ∷ lines) inner =
    let both = and_parts (is_inner line) (list_all is_inner lines) inner in
    and_from (is_plain_line line) (list_all is_plain_line lines) (plain_line line both.0) (plain_lines lines both.1)

pub bare_is_plain : (text : List ℕ) → is_bare_text text ≡ true → is_plain text ≡ true
bare_is_plain text bare =
    let none = none_of (list_any (λ b. b == 34) text) (list_any (λ b. b == 13) text) (list_any (λ b. b == 239) text) bare in
    plain_lines (slice_split (λ b. b == 10) text) (inner_lines text none.0 none.1 none.2)
