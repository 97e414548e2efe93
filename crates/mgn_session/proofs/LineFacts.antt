-- From piece to piece of a line, and from line to line of a session: for `LineBuffer`.
use Rattle.std.proofs.Common.{◌≡◌, ◌+◌, ◌-◌, ◌<◌, ◌≤◌, ℕ, Bool, true, false, List, [], ◌∷◌, ◌++◌, length, take, drop, get_or, Some, None, cond, refl, sym, ap, ◌∙◌, arith, append_assoc, length-append, drop-drop, length-drop, min}
use Rattle.std.specs.Prelude.{◌==◌, ◌||◌, nat_lt, position}
use Rattle.std.specs.List.{filter, list_any, position_or_len}
use Rattle.std.proofs.lemmas.Bool.Decides.{nat_tests}
use Rattle.std.proofs.lemmas.Grind.{flat_map-append}
use Rattle.std.proofs.lemmas.List.{append-nil, get_or-take, length-take, take_all, take_more, take-append-le, take-append-drop}
use Rattle.std.proofs.lemmas.List.Elements.{All-from_get_or, filter-append}
use Rattle.std.proofs.lemmas.List.Folds.{list_any-append, list_any_none}
use Rattle.std.proofs.lemmas.List.Quantifiers.{position-Some}
use Rattle.std.proofs.lemmas.List.Sums.{fails_before_first}
use Rattle.mgn_wire.specs.declared.reply.LineReply.{LineReply}
use Rattle.mgn_wire.specs.Line.{line_of}
use Rattle.mgn_wire.specs.Text.{text_of}
use Rattle.mgn_session.specs.Conversation.{line_ends}
use Rattle.mgn_session.specs.Session.{Step, AnswersAll, ended, has_end}
use Rattle.mgn_session.specs.SessionInside.{IsAt, whole_line}

-- the fronts of lists that are put together

take_front_by : (b : Bool) (n : ℕ) (xs ys : List ℕ) → nat_lt n (length xs) ≡ b → take n (take n xs ++ ys) ≡ take n (xs ++ ys)
take_front_by true n xs ys e =
    let long : n ≤ length xs = grind (arith, nat_tests) in
    let full : n ≤ length (take n xs) = omega (arith, length-take n xs) in
    take-append-le n (take n xs) ys full ∙ take_all n (take n xs) (omega (arith, length-take n xs)) ∙ sym (take-append-le n xs ys long)
take_front_by false n xs ys e =
    let short : length xs ≤ n = grind (arith, nat_tests) in
    rw (take_all n xs short) refl

take_front : (n : ℕ) (xs ys : List ℕ) → take n (take n xs ++ ys) ≡ take n (xs ++ ys)
take_front n xs ys = take_front_by (nat_lt n (length xs)) n xs ys refl

pub fronts : (n : ℕ) (xs ys more : List ℕ) → take n xs ≡ take n ys → take n (xs ++ more) ≡ take n (ys ++ more)
fronts n xs ys more e = sym (take_front n xs more) ∙ ap (λ (front : List ℕ). take n (front ++ more)) e ∙ take_front n ys more

-- as much of a piece as there is room for
kept_by : (b : Bool) (line piece : List ℕ) (room : ℕ) → nat_lt (length line + room) 257 ≡ b → room ≡ min (257 - length line) (length piece)
    → take 257 (line ++ take room piece) ≡ take 257 (line ++ piece)
kept_by true line piece room e is =
    let all : length piece ≤ room = grind (arith, nat_tests) in
    rw (take_all room piece all) refl
kept_by false line piece room e is =
    let size : 257 ≤ length line + room = grind (arith, nat_tests) in
    let long : 257 ≤ length (line ++ take room piece) = omega (arith, length-append line (take room piece), length-take room piece) in
    let cut : take 257 ((line ++ take room piece) ++ drop room piece) ≡ take 257 (line ++ take room piece) =
    take-append-le 257 (line ++ take room piece) (drop room piece) long in
    sym (rw (append_assoc, take-append-drop room piece) at cut)

pub kept : (line piece : List ℕ) (room : ℕ) → room ≡ min (257 - length line) (length piece) → take 257 (line ++ take room piece) ≡ take 257 (line ++ piece)
kept line piece room is = kept_by (nat_lt (length line + room) 257) line piece room refl is

-- a line is as its first 257 bytes say

line_front_by : (b : Bool) (line : List ℕ) → nat_lt 256 (length line) ≡ b → line_of (take 257 line) ≡ line_of line
line_front_by true line e =
    let long : 256 < length line = grind (arith, nat_tests) in
    let front_long : 256 < length (take 257 line) = omega (arith, length-take 257 line) in
    let f : nat_lt 256 (length (take 257 line)) ≡ true = grind (arith, nat_tests) in
    rw (e, f) refl
line_front_by false line e =
    let short : length line ≤ 256 = grind (arith, nat_tests) in
    rw (take_all 257 line (omega arith)) refl

line_front : (line : List ℕ) → line_of (take 257 line) ≡ line_of line
line_front line = line_front_by (nat_lt 256 (length line)) line refl

pub same_line : (xs ys : List ℕ) → take 257 xs ≡ take 257 ys → line_of xs ≡ line_of ys
same_line xs ys e = sym (line_front xs) ∙ ap line_of e ∙ line_front ys

-- a line whose front is kept is known by it, and one that is at hand whole by that
whole_by : (b : Bool) (line new last : List ℕ) → (length new == 0) ≡ b → 0 < length line → take 257 new ≡ take 257 (line ++ last) → line_of (whole_line new last) ≡ line_of (line ++ last)
whole_by true line new last e some front =
    let none : length new ≡ 0 = grind (arith, nat_tests) in
    absurd (omega (arith, none, some, ap length front, length-take 257 new, length-take 257 (line ++ last), length-append line last))
whole_by false line new last e some front = rw e (same_line new (line ++ last) front)

pub whole_is : (line new last : List ℕ) → 0 < length line → take 257 new ≡ take 257 (line ++ last) → line_of (whole_line new last) ≡ line_of (line ++ last)
whole_is line new last some front = whole_by (length new == 0) line new last refl some front

-- where a line ends

absent : (b : Bool) (x : ℕ) → cond b (Some x) None ≡ None → b ≡ false
absent true x e = cc
absent false x e = refl

position-None : (p : ℕ → Bool) (xs : List ℕ) → position p xs ≡ None → length xs ≤ position_or_len p xs
position-None p xs e =
    let none = absent (nat_lt (position_or_len p xs) (length xs)) (position_or_len p xs) e in
    grind (arith, nat_tests)

pub no_end : (xs : List ℕ) → position (λ b. b == 10) xs ≡ None → has_end xs ≡ false
no_end xs e =
    list_any_none (λ b. b == 10) xs (All-from_get_or (λ b. (b == 10) ≡ false) xs 0 (λ i inside. fails_before_first (λ b. b == 10) xs i 0 (omega (arith, position-None (λ b. b == 10) xs e))))

is_end : (b : ℕ) → (b == 10) ≡ true → b ≡ 10
is_end b e = grind (arith, nat_tests)

pub end_at : (xs : List ℕ) (i : ℕ) → position (λ b. b == 10) xs ≡ Some i
    → (i < length xs) × (take (i + 1) xs ≡ take i xs ++ 10 ∷ []) × (has_end (take i xs) ≡ false)
end_at xs i e =
    let found = position-Some (λ b. b == 10) xs i 0 e in
    let before : (k : ℕ) → k < length (take i xs) → (get_or (take i xs) k 0 == 10) ≡ false = λ k inside.
    let small : k < i = omega (arith, length-take i xs) in
    rw (get_or-take i xs k 0 small) (found.2 k small) in
    (found.0, rw (is_end (get_or xs i 0) found.1) at (take_more xs i 0 found.0), list_any_none (λ b. b == 10) (take i xs) (All-from_get_or (λ b. (b == 10) ≡ false) (take i xs) 0 before))

pub any_append : {A : Type 0} (p : A → Bool) (xs ys : List A) → list_any p xs ≡ false → list_any p ys ≡ false → list_any p (xs ++ ys) ≡ false
any_append p xs ys e f = rw (list_any-append p xs ys, e, f) refl

-- how many lines end

no_ends_by : (b : Bool) (x : ℕ) (xs : List ℕ) → (b || has_end xs) ≡ false → (has_end xs ≡ false → line_ends xs ≡ 0)
    → length (cond b (x ∷ filter (λ b. b == 10) xs) (filter (λ b. b == 10) xs)) ≡ 0
no_ends_by true x xs none rest = cc
no_ends_by false x xs none rest = rest none

pub no_ends : (xs : List ℕ) → has_end xs ≡ false → line_ends xs ≡ 0
no_ends [] none = refl
no_ends (x ∷ xs) none = no_ends_by (x == 10) x xs none (no_ends xs)

pub ends_after : (last rest : List ℕ) → has_end last ≡ false → line_ends ((last ++ 10 ∷ []) ++ rest) ≡ line_ends rest + 1
ends_after last rest none =
    let ends = λ (b : ℕ). b == 10 in
    rw (filter-append ends (last ++ 10 ∷ []) rest, filter-append ends last (10 ∷ []))
    (omega (arith, no_ends last none, length-append (filter ends last ++ 10 ∷ []) (filter ends rest), length-append (filter ends last) (10 ∷ [])))

-- a text from a place on, in which a line ends
pub splits_at : (chunk : List ℕ) (at end : ℕ) → at ≤ length chunk → position (λ b. b == 10) (drop at chunk) ≡ Some end
    → (at + (end + 1) ≤ length chunk) × (has_end (take end (drop at chunk)) ≡ false)
    × (drop at chunk ≡ (take end (drop at chunk) ++ 10 ∷ []) ++ drop (at + (end + 1)) chunk)
    × (line_ends (drop at chunk) ≡ line_ends (drop (at + (end + 1)) chunk) + 1)
splits_at chunk at end within e =
    let found = end_at (drop at chunk) end e in
    let later : drop (end + 1) (drop at chunk) ≡ drop (at + (end + 1)) chunk = drop-drop (end + 1) at chunk in
    let whole : drop at chunk ≡ (take end (drop at chunk) ++ 10 ∷ []) ++ drop (at + (end + 1)) chunk =
    sym (take-append-drop (end + 1) (drop at chunk)) ∙ rw (found.1, later) refl in
    (omega (arith, found.0, length-drop at chunk), found.2, whole, ap line_ends whole ∙ ends_after (take end (drop at chunk)) (drop (at + (end + 1)) chunk) found.2)

-- answers line by line

pub answers_more : {X : Type 0} (step : Step X) (old mid new : X) (lines : List (List ℕ)) (replies : List LineReply) (line : List ℕ) (reply : LineReply)
    → AnswersAll step old lines replies mid → step mid (line_of line) reply new → AnswersAll step old (lines ++ line ∷ []) (replies ++ reply ∷ []) new
answers_more step old mid new [] [] line reply all one = (new, rw all at one, refl)
answers_more step old mid new [] (a ∷ replies) line reply all one = absurd all
answers_more step old mid new (l ∷ lines) [] line reply all one = absurd all
answers_more step old mid new (l ∷ lines) (a ∷ replies) line reply all one =
    (all.0, all.1, answers_more step all.0 mid new lines replies line reply all.2 one)

-- a line that is answered
abbrev pub ends_line : {X : Type 0} (step : Step X) (old mid new : X) (input text : List ℕ) (n : ℕ) (line last : List ℕ) (reply : LineReply)
    → IsAt step old mid input text n line → has_end last ≡ false → step mid (line_of (line ++ last)) reply new
    → IsAt step old new (input ++ (last ++ 10 ∷ [])) (text ++ text_of reply) (n + 1) []
ends_line step old mid new input text n line last reply at whole one =
    let s = at.session in
    let read : step mid (line_of (s.rest ++ last)) reply new = rw (same_line (line ++ last) (s.rest ++ last) (fronts 257 line s.rest last at.front)) at one in
    let unbroken : has_end (s.rest ++ last) ≡ false = any_append (λ b. b == 10) s.rest last s.splits.partial whole in
    record {
      session = record {
        lines = s.lines ++ (s.rest ++ last) ∷ [];
        rest = [];
        replies = s.replies ++ reply ∷ [];
        splits = record {
          whole = rw (s.splits.whole, flat_map-append ended s.lines ((s.rest ++ last) ∷ [])) (simp (append_assoc, append-nil));
          each = any_append has_end s.lines ((s.rest ++ last) ∷ []) s.splits.each (rw unbroken refl);
          partial = refl;
        };
        count_is = omega (arith, s.count_is, length-append s.lines ((s.rest ++ last) ∷ []));
        answered = answers_more step old mid new s.lines s.replies (s.rest ++ last) reply s.answered read;
        text_is = rw (s.text_is, flat_map-append text_of s.replies (reply ∷ [])) (simp append-nil);
      };
      front = refl;
    }

-- a piece of a line that goes on
pub goes_further : {X : Type 0} (step : Step X) (old new : X) (input text : List ℕ) (n : ℕ) (line piece line2 : List ℕ)
    → IsAt step old new input text n line → has_end piece ≡ false → take 257 line2 ≡ take 257 (line ++ piece)
    → IsAt step old new (input ++ piece) text n line2
goes_further step old new input text n line piece line2 at whole front =
    let s = at.session in
    record {
      session = record {
        lines = s.lines;
        rest = s.rest ++ piece;
        replies = s.replies;
        splits = record {
          whole = rw (s.splits.whole, append_assoc) refl;
          each = s.splits.each;
          partial = any_append (λ b. b == 10) s.rest piece s.splits.partial whole;
        };
        count_is = s.count_is;
        answered = s.answered;
        text_is = s.text_is;
      };
      front = front ∙ fronts 257 line s.rest piece at.front;
    }
