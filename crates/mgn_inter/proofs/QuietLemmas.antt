-- A change of a commodity's net delta that no spread notices: for `pass_all`.
use Rattle.std.proofs.Common.{◌≡◌, ◌≢◌, ℕ, zero, suc, ◌+◌, ◌<◌, ◌≤◌, Bool, true, false, List, [], ◌∷◌, length, take, slice_index, slice_set, replicate, ℤ, ap, ◌∙◌, sym, arith, refl, add-one, ⊎_elim, length-set, get_or-set_same, eq-eqb, ne_eqb}
use Rattle.std.specs.Int.{bit_at}
use Rattle.std.specs.List.{list_all}
use Rattle.std.proofs.lemmas.Bool.{cases_eq}
use Rattle.std.proofs.lemmas.List.{length-replicate}
use Rattle.std.proofs.lemmas.Nat.Bits.{bit_at-lt}
use Rattle.mgn_params.specs.declared.tables.CreditSpread.{CreditSpread}
use Rattle.mgn_params.specs.declared.tables.Leg.{Leg}
use Rattle.mgn_params.specs.Tables.{Tables, credit_spread_at, legs_of}
use Rattle.mgn_span.specs.Credits.{fits, forms, rest_fits}
use Rattle.mgn_span.specs.Scan.{value_at}
use Rattle.mgn_span.specs.Words.{leg_at}
use Rattle.mgn_inter.specs.declared.spread_state.SpreadState.{SpreadState}
use Rattle.mgn_inter.specs.Credited.{IsAtTurn}
use Rattle.mgn_inter.specs.Quiet.{AreAlike, IsMoved, IsRowMoved, NoneForms}
use Rattle.mgn_inter.specs.Rows.{Credited, IsKept, Misses, kept_at, moved_at, rests_at, share_of, state_of}
use Rattle.mgn_inter.proofs.SpreadLemmas.{formed_no, formed_out}
use Rattle.mgn_inter.proofs.StateLemmas.{kept_other, kept_own, shares_set}
use Rattle.mgn_inter.proofs.TurnLemmas.{mark_other, rests_suc}

-- rests that have the same directions for all legs form the same spreads

all_fit_alike : (a_long : Bool) (a b : List ℤ) (legs : List Leg) → ((j : ℕ) → j < length legs → fits a_long a (leg_at legs j) ≡ fits a_long b (leg_at legs j)) → list_all (fits a_long a) legs ≡ list_all (fits a_long b) legs
all_fit_alike a_long a b [] same = refl
all_fit_alike a_long a b (leg ∷ legs) same =
    let first : fits a_long a leg ≡ fits a_long b leg = same 0 (omega arith) in
    let others = all_fit_alike a_long a b legs (λ j h. same (suc j) (omega arith)) in
    rw (first, others) refl

forms_alike : (a b : List ℤ) (legs : List Leg) → ((a_long : Bool) (j : ℕ) → j < length legs → fits a_long a (leg_at legs j) ≡ fits a_long b (leg_at legs j)) → forms a legs ≡ forms b legs
forms_alike a b legs same = rw (all_fit_alike true a b legs (same true), all_fit_alike false a b legs (same false)) refl

-- the rest of a commodity at a turn, where no spread that names it forms
quiet_rest : (deltas : List ℤ) (risks : List ℕ) (spreads : List CreditSpread) (places g n : ℕ) → n ≤ length spreads → Misses spreads places g → NoneForms spreads deltas risks places → value_at (rests_at deltas risks spreads n) g ≡ value_at deltas g
quiet_rest deltas risks spreads places g zero h misses none = refl
quiet_rest deltas risks spreads places g (suc n) h misses none =
    let inside : n < length spreads = omega arith in
    let now = state_of deltas risks (take n spreads) in
    let s = credit_spread_at spreads n in
    let before = quiet_rest deltas risks spreads places g n (omega arith) misses none in
    rw (← add-one, rests_suc deltas risks spreads n inside) (
    ⊎_elim
    (λ (unset : bit_at places n ≡ 0). (formed_out deltas risks now s g (misses n inside unset)).0 ∙ before)
    (λ (set : bit_at places n ≢ 0).
    let one : bit_at places n ≡ 1 = omega (arith, set, bit_at-lt places n) in
    rw (formed_no deltas risks now s (none n inside one)) before)
    (cases_eq (bit_at places n) 0))

-- the commodity alone has moved
mark_own : (g : ℕ) → g < 256 → moved_at (slice_set (replicate 256 false) g true) g ≡ true
mark_own g low = get_or-set_same (replicate 256 false) g true false (omega (arith, low, length-replicate {A = Bool} 256 false))

-- a spread that does not form of the old rests forms of the new ones no more
pub quiet_forms : (set : Tables) (g : ℕ) (was : Credited) (i places : ℕ) (c : Credited) (rest : ℤ) → IsAtTurn set g was (slice_set (replicate 256 false) g true) i c → i < length set.credits → g < 256 → value_at c.rests g ≡ rest → AreAlike rest (value_at was.deltas g) → Misses set.credits places g → NoneForms set.credits was.deltas was.risks places → bit_at places i ≡ 1
    → forms (rests_at c.deltas c.risks set.credits i) (legs_of (credit_spread_at set.credits i)) ≡ false
quiet_forms set g was i places c rest at inside low is alike misses none bit =
    let spreads = set.credits in
    let legs = legs_of (credit_spread_at spreads i) in
    let now = rests_at c.deltas c.risks spreads i in
    let before = rests_at was.deltas was.risks spreads i in
    let own : value_at now g ≡ rest = rw (mark_own g low) at (at.rests g) ∙ is in
    let old : value_at before g ≡ value_at was.deltas g = quiet_rest was.deltas was.risks spreads places g i (omega arith) misses none in
    forms_alike now before legs (λ a_long j h.
    let leg = leg_at legs j in
    ⊎_elim
    (λ (here : leg.commodity ≡ g).
    ap (λ (k : ℕ). rest_fits a_long (value_at now k) leg.side) here
    ∙ ap (λ (z : ℤ). rest_fits a_long z leg.side) own
    ∙ alike a_long leg.side
    ∙ ap (λ (z : ℤ). rest_fits a_long z leg.side) (sym old)
    ∙ ap (λ (k : ℕ). rest_fits a_long (value_at before k) leg.side) (sym here))
    (λ (other : leg.commodity ≢ g).
    ap (λ (z : ℤ). rest_fits a_long z leg.side) (rw (mark_other g leg.commodity other) at (at.rests leg.commodity)))
    (cases_eq leg.commodity g))
    ∙ none i inside bit

-- what is kept of it
quiet_kept : (set : Tables) (g : ℕ) (was : Credited) (i : ℕ) (c : Credited) (own : SpreadState) (rest : ℤ) → IsAtTurn set g was (slice_set (replicate 256 false) g true) i c → i < length set.credits → g < 256 → value_at c.rests g ≡ rest → forms (rests_at was.deltas was.risks set.credits i) (legs_of (credit_spread_at set.credits i)) ≡ false → forms (rests_at c.deltas c.risks set.credits i) (legs_of (credit_spread_at set.credits i)) ≡ false
    → IsMoved g rest (legs_of (credit_spread_at set.credits i)) (kept_at c.kept i) own → IsKept c.deltas c.risks (rests_at c.deltas c.risks set.credits i) (credit_spread_at set.credits i) own
quiet_kept set g was i c own rest at inside low is they_dont they_dont_now moved =
    let spreads = set.credits in
    let s = credit_spread_at spreads i in
    let legs = legs_of s in
    let now = rests_at c.deltas c.risks spreads i in
    let before = rests_at was.deltas was.risks spreads i in
    let left = at.left i (omega arith) inside in
    let same = λ (x : List ℕ). (let p : List ℤ × List ℕ = (now, x) in formed_no c.deltas c.risks p s they_dont_now) in
    let was_same = λ (x : List ℕ). (let p : List ℤ × List ℕ = (before, x) in formed_no was.deltas was.risks p s they_dont) in
    let row : (old new : List ℤ) → IsRowMoved g rest legs old new → ((j : ℕ) → j < length legs → value_at old j ≡ value_at before (leg_at legs j).commodity) → (j : ℕ) → j < length legs → value_at new j ≡ value_at now (leg_at legs j).commodity
    = λ old new is_moved were j h.
    let leg = leg_at legs j in
    ⊎_elim
    (λ (here : leg.commodity ≡ g).
    let own_rest : value_at now g ≡ rest = rw (mark_own g low) at (at.rests g) ∙ is in
    rw (eq-eqb leg.commodity g here) at (is_moved j h) ∙ sym own_rest ∙ ap (λ (k : ℕ). value_at now k) (sym here))
    (λ (other : leg.commodity ≢ g).
    rw (ne_eqb leg.commodity g other) at (is_moved j h) ∙ were j h ∙ sym (rw (mark_other g leg.commodity other) at (at.rests leg.commodity)))
    (cases_eq leg.commodity g)
    in
    record {
      rests_long = moved.rests_long;
      after_long = moved.after_long;
      credits_long = ap (λ (xs : List ℕ). length xs) moved.credits ∙ left.credits_long;
      rests_are = row (kept_at c.kept i).rests own.rests moved.rests left.rests_are;
      after_are = λ x j h.
          rw (same x) (row (kept_at c.kept i).after own.after moved.after (λ k low_k. left.after_are x k low_k ∙ ap (λ (p : List ℤ × List ℕ). value_at p.0 (leg_at legs k).commodity) (was_same x)) j h);
      credits_are = λ x k long.
          let before_them = left.credits_are x k (long ∙ at.one_each ∙ sym at.one_was_each) in
          ap (λ (p : List ℤ × List ℕ). slice_index p.1 k) (same x ∙ sym (ap (λ (p : List ℤ × List ℕ). (now, p.1)) (was_same x)))
          ∙ before_them
          ∙ ap (λ (xs : List ℕ). slice_index x k + share_of k legs xs) (sym moved.credits);
    }

-- the turn of a spread that forms neither before nor after
pub turn_quiet : (set : Tables) (g : ℕ) (was : Credited) (i : ℕ) (c : Credited) (own : SpreadState) (rest : ℤ) → IsAtTurn set g was (slice_set (replicate 256 false) g true) i c → i < length set.credits → g < 256 → value_at c.rests g ≡ rest → forms (rests_at was.deltas was.risks set.credits i) (legs_of (credit_spread_at set.credits i)) ≡ false → forms (rests_at c.deltas c.risks set.credits i) (legs_of (credit_spread_at set.credits i)) ≡ false
    → IsMoved g rest (legs_of (credit_spread_at set.credits i)) (kept_at c.kept i) own → IsAtTurn set g was (slice_set (replicate 256 false) g true) (i + 1) (record c { kept = slice_set c.kept i own })
turn_quiet set g was i c own rest at inside low is they_dont they_dont_now moved =
    let spreads = set.credits in
    let s = credit_spread_at spreads i in
    let legs = legs_of s in
    let low_kept : i < length c.kept = omega (arith, inside, at.one_kept_each) in
    let next : rests_at c.deltas c.risks spreads (i + 1) ≡ rests_at c.deltas c.risks spreads i = rests_suc c.deltas c.risks spreads i inside ∙ ap (λ (p : List ℤ × List ℕ). p.0) (formed_no c.deltas c.risks (state_of c.deltas c.risks (take i spreads)) s they_dont_now) in
    let was_next : rests_at was.deltas was.risks spreads (i + 1) ≡ rests_at was.deltas was.risks spreads i = rests_suc was.deltas was.risks spreads i inside ∙ ap (λ (p : List ℤ × List ℕ). p.0) (formed_no was.deltas was.risks (state_of was.deltas was.risks (take i spreads)) s they_dont) in
    record {
      fewer = omega arith;
      one_each = at.one_each;
      one_was_each = at.one_was_each;
      numbers = at.numbers;
      were = at.were;
      deltas = at.deltas;
      risks = at.risks;
      one_rest_each = at.one_rest_each;
      one_mark_each = at.one_mark_each;
      rests = λ k. rw (next, was_next) (at.rests k);
      one_credit_each = at.one_credit_each;
      credits = λ k.
          let sum = shares_set spreads c.kept k i (length spreads) own inside low_kept in
          let same = ap (λ (xs : List ℕ). share_of k legs xs) moved.credits in
          omega (arith, at.credits k, sum, same);
      one_kept_each = omega (arith, at.one_kept_each, length-set c.kept i own);
      done = λ j h.
          ⊎_elim
          (λ (mine : j ≡ i).
          rw (mine, kept_own c.kept i own low_kept) (quiet_kept set g was i c own rest at inside low is they_dont they_dont_now moved))
          (λ (other : j ≢ i). rw (kept_other c.kept i j own other) (at.done j (omega arith)))
          (cases_eq j i);
      left = λ j h there.
          rw (kept_other c.kept i j own (λ e. omega (arith, e, h))) (at.left j (omega arith) there);
    }
