-- A line without a quote, and with no carriage return but one at its end, is closed: for `shape_of`.
use Rattle.std.proofs.Common.{◌≡◌, ◌-◌, ℕ, List, [], ◌∷◌, ◌++◌, length, Bool, true, false, refl, sym, ap, take, get_or, ◌∙◌, arith}
use Rattle.std.specs.Prelude.{◌==◌, ◌&&◌, if◌then◌else◌, not}
use Rattle.std.specs.List.{list_all}
use Rattle.std.specs.Str.Lines.{strip_carriage_return}
use Rattle.std.proofs.lemmas.Bool.{and_parts, eqb-true}
use Rattle.std.proofs.lemmas.List.{append-nil}
use Rattle.csv.specs.declared.parser.Action.{Action}
use Rattle.csv.specs.declared.parser.Action.TheVariants as act
use Rattle.csv.specs.declared.parser.State.{State}
use Rattle.csv.specs.declared.parser.State.TheVariants as st
use Rattle.csv.specs.Machine.{is_end, step}
use Rattle.csv.specs.Reading.{default_config}
use Rattle.mgn_setfile.specs.declared.scan.Shape.TheVariants.{Closed}
use Rattle.mgn_setfile.specs.Plain.{is_bare_byte, shape}

-- a state in which no quote was met
abbrev is_unquoted : State → Bool
is_unquoted st.StartRecord = true
is_unquoted st.StartField = true
is_unquoted st.InField = true
is_unquoted st.InQuoted = false
is_unquoted st.AfterQuote = false
is_unquoted st.InEscape = false
is_unquoted st.InComment = false
is_unquoted st.AfterCr = false

pub none_of : (p q r : Bool) → (not p && not q && not r) ≡ true → (p ≡ false) × (q ≡ false) × (r ≡ false)
none_of true q r e = cc
none_of false true r e = cc
none_of false false true e = cc
none_of false false false e = (refl, refl, refl)

abbrev Stays : State × Action → Type 0
Stays x = (is_end x.1 ≡ false) × (is_unquoted x.0 ≡ true)

picks : (comma : Bool) → Stays (if comma then (st.StartField, act.EndField) else (st.InField, act.Copy))
picks true = (refl, refl)
picks false = (refl, refl)

stays : (s : State) → is_unquoted s ≡ true → (c : ℕ) → is_bare_byte c ≡ true → Stays (step default_config s c)
stays st.StartRecord u c bare = let none = none_of (c == 34) (c == 13) (c == 10) bare in rw (none.1, none.2, none.0) (picks (c == 44))
stays st.StartField u c bare = let none = none_of (c == 34) (c == 13) (c == 10) bare in rw (none.1, none.2, none.0) (picks (c == 44))
stays st.InField u c bare = let none = none_of (c == 34) (c == 13) (c == 10) bare in rw (none.1, none.2) (picks (c == 44))
stays st.InQuoted u c bare = cc
stays st.AfterQuote u c bare = cc
stays st.InEscape u c bare = cc
stays st.InComment u c bare = cc
stays st.AfterCr u c bare = cc

abbrev return_if : Bool → List ℕ
return_if true = 13 ∷ []
return_if false = []

ends : (s : State) → is_unquoted s ≡ true → (returned : Bool) → shape s (return_if returned) ≡ Closed
ends st.StartRecord u true = refl
ends st.StartRecord u false = refl
ends st.StartField u true = refl
ends st.StartField u false = refl
ends st.InField u true = refl
ends st.InField u false = refl
ends st.InQuoted u returned = cc
ends st.AfterQuote u returned = cc
ends st.InEscape u returned = cc
ends st.InComment u returned = cc
ends st.AfterCr u returned = cc

shape_step : (s : State) (c : ℕ) (line : List ℕ) → is_end (step default_config s c).1 ≡ false → shape s (c ∷ line) ≡ shape (step default_config s c).0 line
shape_step s c line e = rw e refl

closed : (s : State) → is_unquoted s ≡ true → (line : List ℕ) → list_all is_bare_byte line ≡ true → (returned : Bool) → shape s (line ++ return_if returned) ≡ Closed
closed s u [] bare returned = ends s u returned
closed s u (c ∷ line) bare returned =
    let both = and_parts (is_bare_byte c) (list_all is_bare_byte line) bare in
    let on = stays s u c both.0 in
    shape_step s c (line ++ return_if returned) on.0 ∙ closed (step default_config s c).0 on.1 line both.1 returned

-- the last byte of a line
last_of : (b : ℕ) (line : List ℕ) → b ∷ line ≡ take (length line) (b ∷ line) ++ get_or (b ∷ line) (length line) 0 ∷ []
last_of b [] = refl
last_of b (c ∷ line) = ap (λ (xs : List ℕ). b ∷ xs) (last_of c line)

stripped : (b : ℕ) (line : List ℕ) (returned : Bool) → (get_or (b ∷ line) (length line) 0 == 13) ≡ returned → strip_carriage_return (b ∷ line) ≡ (if returned then take (length line) (b ∷ line) else b ∷ line)
stripped b line returned e =
    let last : length (b ∷ line) - 1 ≡ length line = omega arith in
    ap (λ (n : ℕ). if get_or (b ∷ line) n 0 == 13 then take n (b ∷ line) else b ∷ line) last ∙ ap (λ (r : Bool). if r then take (length line) (b ∷ line) else b ∷ line) e

-- a line is what stands before the carriage return at its end, and that
returned_or_not : (line : List ℕ) → (returned : Bool) × (line ≡ strip_carriage_return line ++ return_if returned)
returned_or_not [] = (false, refl)
returned_or_not (b ∷ line) = by (get_or (b ∷ line) (length line) 0 == 13) refl
  where
    by : (returned : Bool) → (get_or (b ∷ line) (length line) 0 == 13) ≡ returned → (returned : Bool) × (b ∷ line ≡ strip_carriage_return (b ∷ line) ++ return_if returned)
    by true e = (true, last_of b line ∙ ap (λ (x : ℕ). take (length line) (b ∷ line) ++ x ∷ []) (eqb-true (get_or (b ∷ line) (length line) 0) 13 e) ∙ ap (λ (xs : List ℕ). xs ++ 13 ∷ []) (sym (stripped b line true e)))
    by false e = (false, sym (stripped b line false e) ∙ sym (append-nil (strip_carriage_return (b ∷ line))))

pub bare_shape : (line : List ℕ) → list_all is_bare_byte (strip_carriage_return line) ≡ true → shape st.StartRecord line ≡ Closed
bare_shape line bare =
    let view = returned_or_not line in
    ap (shape st.StartRecord) view.1 ∙ closed st.StartRecord refl (strip_carriage_return line) bare view.0

-- the same of a line that has no carriage return at its end either
pub bare_line : (line : List ℕ) → list_all is_bare_byte line ≡ true → shape st.StartRecord line ≡ Closed
bare_line line bare = ap (shape st.StartRecord) (sym (append-nil line)) ∙ closed st.StartRecord refl line bare false
