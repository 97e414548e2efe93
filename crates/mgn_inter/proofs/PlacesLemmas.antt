-- The places of a number's bits, when one more is set, and when the first is cleared: for `Reworked`.
use Rattle.std.proofs.Common.{◌≡◌, ◌≢◌, ℕ, zero, suc, ◌+◌, ◌-◌, ◌*◌, ◌%◌, ◌^◌, ◌<◌, ◌≤◌, Bool, true, false, List, [], ◌∷◌, ◌++◌, ap, ◌∙◌, sym, arith, refl, ⊎_elim, All, eq-eqb, ne_eqb}
use Rattle.std.specs.Prelude.{◌==◌, bit_and, bit_or}
use Rattle.std.specs.Int.{bit_at, bit_not, w64}
use Rattle.std.proofs.lemmas.Bool.{cases_Bool, cases_eq}
use Rattle.std.proofs.lemmas.List.Elements.{All-contains}
use Rattle.std.proofs.lemmas.Nat.Bits.{bit_at-zero, bit_at_clear_other, bit_at_clear_same, bit_at_set_other, bit_at_set_same}
use Rattle.mgn_inter.specs.Told.{places_of, places_where}
use Rattle.mgn_inter.proofs.ToldLemmas.{if_false, places_have, places_more, places_same}

-- whether a number's bit is 1
abbrev has : ℕ → ℕ → Bool
has bits i = bit_at bits i == 1

has_no : (bits i : ℕ) → bit_at bits i ≡ 0 → has bits i ≡ false
has_no bits i unset = ne_eqb (bit_at bits i) 1 (λ e. omega (arith, e, unset))

none_where : (p : ℕ → Bool) (n : ℕ) → ((k : ℕ) → k < n → p k ≡ false) → places_where p n ≡ []
none_where p zero none = refl
none_where p (suc n) none =
    if_false (p n) (places_where p n ++ n ∷ []) (places_where p n) (none n (omega arith))
    ∙ none_where p n (λ k low. none k (omega (arith, low)))

pub places_none : [] ≡ places_of 0
unfolding places_of
places_none = sym (none_where (has 0) 64 (λ k low. has_no 0 k (bit_at-zero k)))

-- a test that passes one number more, behind all that it passed
set_where : (p q : ℕ → Bool) (place n : ℕ) → place < n → All (λ i. i < place) (places_where p n) → q place ≡ true → ((i : ℕ) → i ≢ place → q i ≡ p i) → places_where q n ≡ places_where p n ++ place ∷ []
set_where p q place n low behind is same =
    let past : (k : ℕ) → place ≤ k → k < n → p k ≡ false = λ k from below.
    ⊎_elim
    (λ (yes : p k ≡ true). let there = places_have p n k below yes in absurd (omega (arith, from, All-contains (λ (i : ℕ). i < place) (places_where p n) k behind there)))
    (λ (no : p k ≡ false). no)
    (cases_Bool (p k)) in
    let upto : place + (n - place) ≡ n = omega (arith, low) in
    let behind_it : suc place + (n - suc place) ≡ n = omega (arith, low) in
    let before : places_where p n ≡ places_where p place = ap (λ (m : ℕ). places_where p m) (sym upto) ∙ places_more p place (n - place) (λ k from below. past k from (omega (arith, below, upto))) in
    let after : places_where q n ≡ places_where q (suc place) = ap (λ (m : ℕ). places_where q m) (sym behind_it) ∙ places_more q (suc place) (n - suc place) (λ k from below. same k (λ e. omega (arith, e, from)) ∙ past k (omega (arith, from)) (omega (arith, below, behind_it))) in
    let alike : places_where q place ≡ places_where p place = places_same q p place (λ i below. same i (λ e. omega (arith, e, below))) in
    let here : places_where q (suc place) ≡ places_where q place ++ place ∷ [] = rw is refl in
    after ∙ here ∙ ap (λ (xs : List ℕ). xs ++ place ∷ []) (alike ∙ sym before)

pub places_set : (bits place : ℕ) → place < 64 → All (λ i. i < place) (places_of bits) → places_of (bit_or bits (1 * 2 ^ place % 2 ^ 64)) ≡ places_of bits ++ place ∷ []
unfolding places_of
places_set n place low behind =
    let more = bit_or n (1 * 2 ^ place % 2 ^ 64) in
    set_where (has n) (has more) place 64 low behind (eq-eqb (bit_at more place) 1 (bit_at_set_same w64 n place low)) (λ i other. ap (λ (bit : ℕ). bit == 1) (bit_at_set_other w64 n place low i other))

-- a test that passes all but the first
first_where : (p q : ℕ → Bool) (first n : ℕ) → first < n → ((k : ℕ) → k < first → p k ≡ false) → p first ≡ true → q first ≡ false → ((i : ℕ) → i < n → i ≢ first → q i ≡ p i) → places_where p n ≡ first ∷ places_where q n
first_where p q first zero low passed is gone same = absurd (omega arith)
first_where p q first (suc n) low passed is gone same =
    ⊎_elim
    (λ (own : first ≡ n).
    let none = none_where p n (λ k below. passed k (omega (arith, below, own))) in
    let none_left = none_where q n (λ k below. same k (omega (arith, below)) (λ e. omega (arith, e, below, own)) ∙ passed k (omega (arith, below, own))) in
    let yes : p n ≡ true = ap p (sym own) ∙ is in
    let no : q n ≡ false = ap q (sym own) ∙ gone in
    rw (yes, no, none, none_left, own) refl)
    (λ (other : first ≢ n).
    let before = first_where p q first n (omega (arith, low, other)) passed is gone (λ i below apart. same i (omega (arith, below)) apart) in
    let here = same n (omega arith) (λ e. other (sym e)) in
    ⊎_elim
    (λ (yes : p n ≡ true). rw (here, yes) (ap (λ (xs : List ℕ). xs ++ n ∷ []) before))
    (λ (no : p n ≡ false). rw (here, no) before)
    (cases_Bool (p n)))
    (cases_eq first n)

pub places_first : (bits first : ℕ) → first < 64 → ((k : ℕ) → k < first → bit_at bits k ≡ 0) → bit_at bits first ≡ 1 → places_of bits ≡ first ∷ places_of (bit_and bits (bit_not w64 (1 * 2 ^ first % 2 ^ 64)))
unfolding places_of
places_first n first low passed is =
    let left = bit_and n (bit_not w64 (1 * 2 ^ first % 2 ^ 64)) in
    first_where (has n) (has left) first 64 low (λ k below. has_no n k (passed k below)) (eq-eqb (bit_at n first) 1 is) (has_no left first (bit_at_clear_same w64 n first low)) (λ i below other. ap (λ (bit : ℕ). bit == 1) (bit_at_clear_other w64 n first low i below other))

pub places_all_passed : (bits : ℕ) → ((k : ℕ) → k < 64 → bit_at bits k ≡ 0) → places_of bits ≡ []
unfolding places_of
places_all_passed n passed = none_where (has n) 64 (λ k low. has_no n k (passed k low))
