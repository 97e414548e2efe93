-- One spread after the other while the numbers of one commodity change: those that are passed over, and those that are
-- formed again.
use Rattle.std.proofs.Common.{◌≡◌, ◌≢◌, ℕ, zero, suc, ◌+◌, ◌*◌, ◌<◌, ◌≤◌, ◌^◌, Bool, true, false, List, length, take, get_or, slice_index, slice_set, replicate, pos, ℤ, ap, ◌∙◌, sym, arith, refl, add-one, ⊎_elim, length-set, get_or-set_same, get_or-set_other, eq-eqb, ne_eqb, take_all, subst}
use Rattle.std.specs.Prelude.{◌==◌, ◌||◌, if◌then◌else◌, not}
use Rattle.std.specs.Ordering.{int_eq}
use Rattle.std.specs.Int.{bit_at}
use Rattle.std.proofs.lemmas.Bool.Decides.{Decides-int_eq}
use Rattle.std.proofs.lemmas.Bool.{cases_Bool, cases_eq, cases_lt, or_parts, true≢false}
use Rattle.std.proofs.lemmas.List.{ext_get_or, get_or-replicate, get_or_past, length-replicate}
use Rattle.std.proofs.lemmas.List.Elements.{All-replicate, All-set}
use Rattle.std.proofs.lemmas.Int.{ints}
use Rattle.std.proofs.lemmas.List.Folds.{list_any_at, list_any_none}
use Rattle.mgn_params.specs.declared.tables.CreditSpread.{CreditSpread}
use Rattle.mgn_params.specs.declared.tables.Leg.{Leg}
use Rattle.mgn_params.specs.Limits.{IsWithinLimits}
use Rattle.mgn_params.specs.Naming.{IsNaming}
use Rattle.mgn_params.specs.Tables.{Tables, credit_spread_at, legs_of, no_credit_spread, no_leg}
use Rattle.mgn_span.specs.Credits.{credits_of, formed}
use Rattle.mgn_span.specs.Scan.{value_at}
use Rattle.mgn_span.specs.Sizes.{IsDelta}
use Rattle.mgn_inter.specs.declared.spread_state.SpreadState.{SpreadState}
use Rattle.mgn_inter.specs.Sizes.{IsRisk}
use Rattle.mgn_inter.specs.Credited.{AreCreditsOf, IsAtTurn}
use Rattle.mgn_inter.specs.Rows.{AreBrought, AreMarked, AreRestsOf, AreWritten, Credited, AreWaiting, IsKept, kept_at, Misses, moved_at, names, nothing_kept, reached, rests_at, share_at, share_of, state_of}
use Rattle.mgn_span.specs.Words.{AreNear, leg_at}
use Rattle.mgn_inter.specs.Shares.{shares}
use Rattle.mgn_inter.proofs.LegLemmas.{Agree, AgreeOn, named_all, share_out}
use Rattle.mgn_inter.proofs.SpreadLemmas.{formed_out, formed_same, kept_same, kept_small}
use Rattle.mgn_inter.proofs.StateLemmas.{kept_none, kept_other, kept_own, none_at, shares_are, shares_one, shares_set, shares_small, state_long, state_near, state_none, state_suc}

-- A choice by a Bool of which the cases are known.
choose : {X : Type 0} (m : Bool) (x y z : X) → (m ≡ true → x ≡ y) → (m ≡ false → x ≡ z) → x ≡ (if m then y else z)
choose true x y z first second = first refl
choose false x y z first second = second refl

chosen : {X : Type 0} (m : Bool) (x y z : X) → x ≡ (if m then y else z) → m ≡ true → x ≡ y
chosen true x y z h is = h
chosen false x y z h is = absurd (true≢false (sym is))

unchosen : {X : Type 0} (m : Bool) (x y z : X) → x ≡ (if m then y else z) → m ≡ false → x ≡ z
unchosen true x y z h is = absurd (true≢false is)
unchosen false x y z h is = h

no_by : (b : Bool) → (b ≡ true → ⊥) → b ≡ false
no_by true h = absurd (h refl)
no_by false h = refl

-- the legs of a spread that is not reached
unreached_at : (moved : List Bool) (g : ℕ) (legs : List Leg) (j : ℕ) → reached moved g legs ≡ false → j < length legs → ((leg_at legs j).commodity ≢ g) × (moved_at moved (leg_at legs j).commodity ≡ false)
unreached_at moved g legs j h inside =
    let c = (leg_at legs j).commodity in
    let none : ((c == g) || moved_at moved c) ≡ false = no_by ((c == g) || moved_at moved c) (λ yes. true≢false (sym (list_any_at (λ (leg : Leg). (leg.commodity == g) || moved_at moved leg.commodity) legs j no_leg inside yes) ∙ h)) in
    let parts = or_parts (c == g) (moved_at moved c) none in
    (λ e. true≢false (sym (eq-eqb c g e) ∙ parts.0), parts.1)

-- the rests at the next turn
pub rests_suc : (deltas : List ℤ) (risks : List ℕ) (spreads : List CreditSpread) (i : ℕ) → i < length spreads → rests_at deltas risks spreads (i + 1) ≡ (formed deltas risks (state_of deltas risks (take i spreads)) (credit_spread_at spreads i)).0
rests_suc deltas risks spreads i h =
    rw add-one (ap (λ (p : List ℤ × List ℕ). p.0) (state_suc deltas risks spreads i h))

rests_long : (deltas : List ℤ) (risks : List ℕ) (spreads : List CreditSpread) (i count : ℕ) → i ≤ length spreads → length deltas ≡ count → length (rests_at deltas risks spreads i) ≡ count
rests_long deltas risks spreads i count h each = (state_long deltas risks spreads i h).0 ∙ each

-- a spread that is not reached is passed over
pub turn_passed : (set : Tables) (g : ℕ) (was : Credited) (moved : List Bool) (i : ℕ) (c : Credited) → IsAtTurn set g was moved i c → i < length set.credits → reached moved g (legs_of (credit_spread_at set.credits i)) ≡ false → IsAtTurn set g was moved (i + 1) c
turn_passed set g was moved i c at h none =
    let spreads = set.credits in
    let s = credit_spread_at spreads i in
    let legs = legs_of s in
    let count = length set.commodities in
    let now = state_of c.deltas c.risks (take i spreads) in
    let before = state_of was.deltas was.risks (take i spreads) in
    let long : length now.0 ≡ length before.0 = rests_long c.deltas c.risks spreads i count at.fewer at.one_each ∙ sym (rests_long was.deltas was.risks spreads i count at.fewer at.one_was_each) in
    let same : Agree now.0 before.0 legs = λ j low. (let k = (leg_at legs j).commodity in unchosen (moved_at moved k) (value_at now.0 k) (value_at c.rests k) (value_at before.0 k) (at.rests k) (unreached_at moved g legs j none low).1) in
    let deltas : Agree c.deltas was.deltas legs = λ j low. at.deltas (leg_at legs j).commodity (unreached_at moved g legs j none low).0 in
    let risks : AgreeOn c.risks was.risks legs = λ j low. at.risks (leg_at legs j).commodity (unreached_at moved g legs j none low).0 in
    let next = rests_suc c.deltas c.risks spreads i h in
    let was_next = rests_suc was.deltas was.risks spreads i h in
    record {
      fewer = omega arith;
      one_each = at.one_each;
      one_was_each = at.one_was_each;
      numbers = at.numbers;
      were = at.were;
      deltas = at.deltas;
      risks = at.risks;
      one_rest_each = at.one_rest_each;
      one_mark_each = at.one_mark_each;
      rests = λ k.
          rw (next, was_next) (
          ⊎_elim
          (λ (named : names k legs ≡ true).
          let no = named_all (λ (n : ℕ). moved_at moved n ≡ false) k legs (λ j low. (unreached_at moved g legs j none low).1) named in
          let here = unchosen (moved_at moved k) (value_at now.0 k) (value_at c.rests k) (value_at before.0 k) (at.rests k) no in
          rw no (formed_same c.deltas was.deltas c.risks was.risks now.0 before.0 now.1 before.1 s k long same here))
          (λ (out : names k legs ≡ false).
          rw ((formed_out c.deltas c.risks now s k out).0, (formed_out was.deltas was.risks before s k out).0) (at.rests k))
          (cases_Bool (names k legs)));
      one_credit_each = at.one_credit_each;
      credits = at.credits;
      one_kept_each = at.one_kept_each;
      done = λ j low.
          ⊎_elim
          (λ (here : j ≡ i).
          rw here (kept_same c.deltas was.deltas c.risks was.risks now.0 before.0 s (kept_at c.kept i) (at.one_each ∙ sym at.one_was_each) long same deltas risks (at.left i (omega arith) h)))
          (λ (other : j ≢ i). at.done j (omega arith))
          (cases_eq j i);
      left = λ j low inside. at.left j (omega arith) inside;
    }

-- the rests that are brought for the legs are those of the turn
pub turn_rests : (set : Tables) (g : ℕ) (was : Credited) (moved : List Bool) (i : ℕ) (c : Credited) (row : List ℤ) → IsAtTurn set g was moved i c → i < length set.credits → length row ≡ 4 → AreBrought moved c.rests (legs_of (credit_spread_at set.credits i)) (kept_at c.kept i).rests row → AreRestsOf (legs_of (credit_spread_at set.credits i)) (rests_at c.deltas c.risks set.credits i) row
turn_rests set g was moved i c row at h long brought = record {
  long = long;
  are = λ j low.
      let n = (leg_at (legs_of (credit_spread_at set.credits i)) j).commodity in
      brought j low
      ∙ ap (λ (z : ℤ). if moved_at moved n then value_at c.rests n else z) ((at.left i (omega arith) h).rests_are j low)
      ∙ sym (at.rests n);
}

pub turn_long : (set : Tables) (g : ℕ) (was : Credited) (moved : List Bool) (i : ℕ) (c : Credited) → IsAtTurn set g was moved i c → length (rests_at c.deltas c.risks set.credits i) ≡ length c.deltas
turn_long set g was moved i c at = (state_long c.deltas c.risks set.credits i at.fewer).0

-- none of a leg's commodity is farther from 0 than its net delta
pub turn_near : (set : Tables) (g : ℕ) (was : Credited) (moved : List Bool) (i : ℕ) (c : Credited) → IsAtTurn set g was moved i c → AreNear c.deltas (rests_at c.deltas c.risks set.credits i) (legs_of (credit_spread_at set.credits i))
turn_near set g was moved i c at j d low =
    let legs = legs_of (credit_spread_at set.credits i) in
    let leg : Leg = get_or legs j d in
    (state_near c.deltas c.risks set.credits i at.fewer).near leg.commodity

-- what is kept of each spread credits a commodity at most as much
pub turn_small : (set : Tables) (g : ℕ) (was : Credited) (moved : List Bool) (i : ℕ) (c : Credited) (k j : ℕ) → IsWithinLimits set → IsAtTurn set g was moved i c → j < length set.credits → share_at set.credits c.kept k j ≤ 4 * 10 ^ 33
turn_small set g was moved i c k j limits at h =
    let s = credit_spread_at set.credits j in
    let limit = limits.credits j no_credit_spread h in
    ⊎_elim
    (λ (low : j < i).
    kept_small c.deltas c.risks (rests_at c.deltas c.risks set.credits j) s (kept_at c.kept j) (length set.commodities) k at.numbers (state_near c.deltas c.risks set.credits j (omega arith)) (sym at.one_each) limit (at.done j low))
    (λ (high : i ≤ j).
    kept_small was.deltas was.risks (rests_at was.deltas was.risks set.credits j) s (kept_at c.kept j) (length set.commodities) k at.were (state_near was.deltas was.risks set.credits j (omega arith)) (sym at.one_was_each) limit (at.left j high h))
    (cases_lt j i)

pub turn_room : (set : Tables) (g : ℕ) (was : Credited) (moved : List Bool) (i : ℕ) (c : Credited) (k : ℕ) → IsWithinLimits set → IsAtTurn set g was moved i c → slice_index c.credits k ≤ 256 * 10 ^ 33
turn_room set g was moved i c k limits at =
    let small = shares_small set.credits c.kept k (4 * 10 ^ 33) (length set.credits) (λ j h. turn_small set g was moved i c k j limits at h) in
    omega (arith, small, at.credits k, limits.few_credits)

pub turn_covers : (set : Tables) (g : ℕ) (was : Credited) (moved : List Bool) (i : ℕ) (c : Credited) (k : ℕ) → IsAtTurn set g was moved i c → i < length set.credits → share_of k (legs_of (credit_spread_at set.credits i)) (kept_at c.kept i).credits ≤ slice_index c.credits k
turn_covers set g was moved i c k at h =
    omega (arith, at.credits k, shares_one set.credits c.kept k (length set.credits) i h)

-- and so does what is kept of the spread once it is formed again
pub turn_own_small : (set : Tables) (g : ℕ) (was : Credited) (moved : List Bool) (i : ℕ) (c : Credited) (own : SpreadState) (k : ℕ) → IsWithinLimits set → IsAtTurn set g was moved i c → i < length set.credits → IsKept c.deltas c.risks (rests_at c.deltas c.risks set.credits i) (credit_spread_at set.credits i) own → share_of k (legs_of (credit_spread_at set.credits i)) own.credits ≤ 4 * 10 ^ 33
turn_own_small set g was moved i c own k limits at h is =
    kept_small c.deltas c.risks (rests_at c.deltas c.risks set.credits i) (credit_spread_at set.credits i) own (length set.commodities) k at.numbers (state_near c.deltas c.risks set.credits i at.fewer) (sym at.one_each) (limits.credits i no_credit_spread h) is

not_not : (b : Bool) → not b ≡ false → b ≡ true
not_not true h = refl
not_not false h = absurd (true≢false h)

-- two rests are one where a mark is missing that says that they differ
unmarked : (a b : ℤ) (m : Bool) → m ≡ not (int_eq a b) → m ≡ false → a ≡ b
unmarked a b m is unset = (Decides-int_eq a b).0 (not_not (int_eq a b) (sym is ∙ unset))

-- a spread that is reached is formed again
pub turn_reworked : (set : Tables) (g : ℕ) (was : Credited) (moved marks : List Bool) (i : ℕ) (c : Credited) (rests : List ℤ) (credits : List ℕ) (own : SpreadState) → IsAtTurn set g was moved i c → i < length set.credits → let s = credit_spread_at set.credits i in let legs = legs_of s in let old = kept_at c.kept i in IsKept c.deltas c.risks (rests_at c.deltas c.risks set.credits i) s own → AreMarked moved legs old.after own.after marks → length rests ≡ length c.rests → AreWritten marks c.rests legs own.after rests → length credits ≡ length c.credits → ((k : ℕ) → slice_index credits k + share_of k legs old.credits ≡ slice_index c.credits k + share_of k legs own.credits) → IsAtTurn set g was marks (i + 1) (record c { rests = rests; credits = credits; kept = slice_set c.kept i own })
turn_reworked set g was moved marks i c rests credits own at h is marked rests_long written long credits_are =
    let spreads = set.credits in
    let s = credit_spread_at spreads i in
    let legs = legs_of s in
    let old = kept_at c.kept i in
    let now = state_of c.deltas c.risks (take i spreads) in
    let before = state_of was.deltas was.risks (take i spreads) in
    let left = at.left i (omega arith) h in
    let next = rests_suc c.deltas c.risks spreads i h in
    let was_next = rests_suc was.deltas was.risks spreads i h in
    let after = (formed c.deltas c.risks now s).0 in
    let was_after = (formed was.deltas was.risks before s).0 in
    let low_kept : i < length c.kept = omega (arith, h, at.one_kept_each) in
    record {
      fewer = omega arith;
      one_each = at.one_each;
      one_was_each = at.one_was_each;
      numbers = at.numbers;
      were = at.were;
      deltas = at.deltas;
      risks = at.risks;
      one_rest_each = rests_long ∙ at.one_rest_each;
      one_mark_each = omega (arith, at.one_mark_each, marked.long);
      rests = λ k.
          rw (next, was_next) (
          ⊎_elim
          (λ (named : names k legs ≡ true).
          named_all (λ (n : ℕ). value_at after n ≡ (if moved_at marks n then value_at rests n else value_at was_after n)) k legs (λ j low.
          let n = (leg_at legs j).commodity in
          let own_is : value_at own.after j ≡ value_at after n = is.after_are now.1 j low in
          let old_is : value_at old.after j ≡ value_at was_after n = left.after_are before.1 j low in
          choose (moved_at marks n) (value_at after n) (value_at rests n) (value_at was_after n) (λ yes. sym own_is ∙ sym (written.are j low yes)) (λ unset. sym own_is ∙ unmarked (value_at own.after j) (value_at old.after j) (moved_at marks n) (marked.are j low) unset ∙ old_is)) named)
          (λ (out : names k legs ≡ false).
          rw ((formed_out c.deltas c.risks now s k out).0, (formed_out was.deltas was.risks before s k out).0, marked.out k out, written.out k out) (at.rests k))
          (cases_Bool (names k legs)));
      one_credit_each = long ∙ at.one_credit_each;
      credits = λ k.
          omega (arith, credits_are k, at.credits k, shares_set spreads c.kept k i (length spreads) own h low_kept);
      one_kept_each = omega (arith, at.one_kept_each, length-set c.kept i own);
      done = λ j low.
          ⊎_elim
          (λ (mine : j ≡ i). rw (mine, kept_own c.kept i own low_kept) is)
          (λ (other : j ≢ i). rw (kept_other c.kept i j own other) (at.done j (omega arith)))
          (cases_eq j i);
      left = λ j low inside.
          rw (kept_other c.kept i j own (λ e. omega (arith, e, low))) (at.left j (omega arith) inside);
    }

-- its credits of the commodities that the spread does not name are as they were
pub turn_others : (legs : List Leg) (old own credits was : List ℕ) (k : ℕ) → slice_index credits k + share_of k legs old ≡ slice_index was k + share_of k legs own → names k legs ≡ false → slice_index credits k ≡ slice_index was k
turn_others legs old own credits was k sum out = omega (arith, sum, share_out k legs old out, share_out k legs own out)

-- the credits of the definition are those of all spreads
all_spreads : (deltas : List ℤ) (risks : List ℕ) (spreads : List CreditSpread) → (state_of deltas risks (take (length spreads) spreads)).1 ≡ credits_of deltas risks spreads
all_spreads deltas risks spreads =
    ap (λ (ss : List CreditSpread). (state_of deltas risks ss).1) (take_all (length spreads) spreads (omega arith))

pub credits_long : (set : Tables) (c : Credited) → AreCreditsOf set c → length c.credits ≡ length c.deltas
credits_long set c are =
    ap (λ (row : List ℕ). length row) (are.credits ∙ sym (all_spreads c.deltas c.risks set.credits)) ∙ (state_long c.deltas c.risks set.credits (length set.credits) (omega arith)).1

credit_shares : (set : Tables) (c : Credited) (k : ℕ) → AreCreditsOf set c → slice_index c.credits k ≡ shares set.credits c.kept k (length set.credits)
credit_shares set c k are =
    ap (λ (row : List ℕ). slice_index row k) (are.credits ∙ sym (all_spreads c.deltas c.risks set.credits)) ∙ shares_are c.deltas c.risks set.credits c.kept k (length set.credits) (omega arith) are.kept

-- Before the first spread: only the commodity's rest has moved.
pub mark_other : (g k : ℕ) → k ≢ g → moved_at (slice_set (replicate 256 false) g true) k ≡ false
mark_other g k other =
    get_or-set_other (replicate 256 false) g k true false other
    ∙ ⊎_elim
    (λ (inside : k < 256). get_or-replicate {A = Bool} 256 k false false inside)
    (λ (past : 256 ≤ k). get_or_past {X = Bool} (replicate {A = Bool} 256 false) k false (omega (arith, length-replicate {A = Bool} 256 false)))
    (cases_lt k 256)

pub turn_first : (set : Tables) (g : ℕ) (was : Credited) (d : ℤ) (x : ℕ) → IsWithinLimits set → AreCreditsOf set was → g < length set.commodities → IsDelta d → IsRisk x → IsAtTurn set g was (slice_set (replicate 256 false) g true) 0 (record was { deltas = slice_set was.deltas g d; risks = slice_set was.risks g x; rests = slice_set was.rests g d })
turn_first set g was d x limits are low small risk = record {
  fewer = omega arith;
  one_each = length-set was.deltas g d ∙ are.one_each;
  one_was_each = are.one_each;
  numbers = record {
    one_each = length-set was.risks g x ∙ are.numbers.one_each ∙ sym (length-set was.deltas g d);
    small_deltas = All-set IsDelta was.deltas g d small are.numbers.small_deltas;
    small_risks = λ k.
        ⊎_elim
        (λ (here : k ≡ g).
        rw (here, get_or-set_same was.risks g x 0 (omega (arith, are.numbers.one_each, are.one_each, low))) risk)
        (λ (other : k ≢ g). rw (get_or-set_other was.risks g k x 0 other) (are.numbers.small_risks k))
        (cases_eq k g);
  };
  were = are.numbers;
  deltas = λ k other. get_or-set_other was.deltas g k d (pos 0) other;
  risks = λ k other. get_or-set_other was.risks g k x 0 other;
  one_rest_each = length-set was.rests g d ∙ are.one_rest_each ∙ sym (length-set was.deltas g d);
  one_mark_each = omega (arith, limits.few_commodities, length-set (replicate 256 false) g true, length-replicate {A = Bool} 256 false);
  rests = λ k.
      ⊎_elim
      (λ (here : k ≡ g).
      rw (here, get_or-set_same (replicate 256 false) g true false (omega (arith, low, limits.few_commodities, length-replicate {A = Bool} 256 false))) (get_or-set_same was.deltas g d (pos 0) (omega (arith, low, are.one_each)) ∙ sym (get_or-set_same was.rests g d (pos 0) (omega (arith, low, are.one_each, are.one_rest_each)))))
      (λ (other : k ≢ g).
      rw (mark_other g k other) (get_or-set_other was.deltas g k d (pos 0) other))
      (cases_eq k g);
  one_credit_each = credits_long set was are ∙ sym (length-set was.deltas g d);
  credits = λ k. credit_shares set was k are;
  one_kept_each = are.one_kept_each;
  done = λ j h. absurd (omega arith);
  left = λ j h inside. are.kept j inside;
}

-- the spreads before the first that names the commodity are passed over
unreached_first : (g : ℕ) (legs : List Leg) → names g legs ≡ false → reached (slice_set (replicate 256 false) g true) g legs ≡ false
unreached_first g legs none =
    list_any_none (λ (leg : Leg). (leg.commodity == g) || moved_at (slice_set (replicate 256 false) g true) leg.commodity) legs (λ j d low.
    let c = (get_or legs j d).commodity in
    let other : c ≢ g = λ e. true≢false (sym (list_any_at (λ (leg : Leg). leg.commodity == g) legs j d low (eq-eqb c g e)) ∙ none) in
    rw (ne_eqb c g other) (mark_other g c other))

-- a spread that has no bit does not name the commodity
pub named_not : (spreads : List CreditSpread) (g places i : ℕ) → IsNaming spreads g places → bit_at places i ≡ 0 → names g (legs_of (credit_spread_at spreads i)) ≡ false
named_not spreads g places i is none =
    ⊎_elim
    (λ (named : names g (legs_of (credit_spread_at spreads i)) ≡ true). absurd (omega (arith, none, rw named at (is i))))
    (λ (no : names g (legs_of (credit_spread_at spreads i)) ≡ false). no)
    (cases_Bool (names g (legs_of (credit_spread_at spreads i))))

pub misses_of : (spreads : List CreditSpread) (g places : ℕ) → IsNaming spreads g places → Misses spreads places g
misses_of spreads g places is i inside none = named_not spreads g places i is none

-- Those that name the commodity wait first, then those that a rest reaches which has moved.
pub waiting_first : (spreads : List CreditSpread) (g waiting : ℕ) → Misses spreads waiting g → AreWaiting spreads g (slice_set (replicate 256 false) g true) 0 waiting
waiting_first spreads g waiting misses j from inside none =
    unreached_first g (legs_of (credit_spread_at spreads j)) (misses j inside none)

pub waiting_next : (spreads : List CreditSpread) (g i : ℕ) (moved marks : List Bool) (old new : ℕ) → AreWaiting spreads g moved i old → ((j : ℕ) → bit_at new j ≡ 0 → bit_at old j ≡ 0) → let legs = legs_of (credit_spread_at spreads i) in ((j n : ℕ) → bit_at new j ≡ 0 → n < length legs → moved_at marks (leg_at legs n).commodity ≡ true → names (leg_at legs n).commodity (legs_of (credit_spread_at spreads j)) ≡ false) → ((k : ℕ) → names k legs ≡ false → moved_at marks k ≡ moved_at moved k) → AreWaiting spreads g marks (i + 1) new
waiting_next spreads g i moved marks old new wait kept added out j from inside none =
    let own = legs_of (credit_spread_at spreads i) in
    let legs = legs_of (credit_spread_at spreads j) in
    let was : reached moved g legs ≡ false = wait j (omega arith) inside (kept j none) in
    list_any_none (λ (leg : Leg). (leg.commodity == g) || moved_at marks leg.commodity) legs (λ n d low.
    let c = (get_or legs n d).commodity in
    let no : ((c == g) || moved_at moved c) ≡ false = no_by ((c == g) || moved_at moved c) (λ yes. true≢false (sym (list_any_at (λ (leg : Leg). (leg.commodity == g) || moved_at moved leg.commodity) legs n d low yes) ∙ was)) in
    let parts = or_parts (c == g) (moved_at moved c) no in
    let unmoved : moved_at marks c ≡ false =
    ⊎_elim
    (λ (named : names c own ≡ true).
    no_by (moved_at marks c) (λ yes.
    let missed = named_all (λ (k : ℕ). moved_at marks k ≡ true → names k legs ≡ false) c own (λ m inner. added j m none inner) named yes in
    true≢false (sym (list_any_at (λ (leg : Leg). leg.commodity == c) legs n d low (eq-eqb c c refl)) ∙ missed)))
    (λ (other : names c own ≡ false). out c other ∙ parts.1)
    (cases_Bool (names c own))
    in
    rw (parts.0, unmoved) refl)

pub turn_skipped : (set : Tables) (g : ℕ) (was c : Credited) (n : ℕ) → n ≤ length set.credits → ((i : ℕ) → i < n → names g (legs_of (credit_spread_at set.credits i)) ≡ false) → IsAtTurn set g was (slice_set (replicate 256 false) g true) 0 c → IsAtTurn set g was (slice_set (replicate 256 false) g true) n c
turn_skipped set g was c zero h misses at = at
turn_skipped set g was c (suc n) h misses at =
    let before = turn_skipped set g was c n (omega arith) (λ i low. misses i (omega arith)) at in
    rw (← add-one) (turn_passed set g was (slice_set (replicate 256 false) g true) n c before (omega arith) (unreached_first g (legs_of (credit_spread_at set.credits n)) (misses n (omega arith))))

-- what the change does not reach is passed over
pub turn_jumped : (set : Tables) (g : ℕ) (was : Credited) (moved : List Bool) (c : Credited) (i n : ℕ) → i + n ≤ length set.credits → ((k : ℕ) → i ≤ k → k < i + n → reached moved g (legs_of (credit_spread_at set.credits k)) ≡ false) → IsAtTurn set g was moved i c → IsAtTurn set g was moved (i + n) c
turn_jumped set g was moved c i zero h out at =
    let same : i ≡ i + 0 = omega arith in
    subst (λ (m : ℕ). IsAtTurn set g was moved m c) same at
turn_jumped set g was moved c i (suc n) h out at =
    let before = turn_jumped set g was moved c i n (omega arith) (λ k from low. out k from (omega arith)) at in
    let next : i + n + 1 ≡ i + suc n = omega arith in
    subst (λ (m : ℕ). IsAtTurn set g was moved m c) next (turn_passed set g was moved (i + n) c before (omega arith) (out (i + n) (omega arith) (omega arith)))

-- After the last spread everything is kept for the new numbers.
pub turn_last : (set : Tables) (g : ℕ) (was : Credited) (moved : List Bool) (c : Credited) → IsWithinLimits set → IsAtTurn set g was moved (length set.credits) c → AreCreditsOf set c
turn_last set g was moved c limits at =
    let n = length set.credits in
    let of = (state_of c.deltas c.risks (take n set.credits)).1 in
    let long : length c.credits ≡ length of = at.one_credit_each ∙ sym (state_long c.deltas c.risks set.credits n (omega arith)).1 in
    record {
      one_each = at.one_each;
      numbers = at.numbers;
      one_rest_each = at.one_rest_each;
      credits = ext_get_or 0 c.credits of long (λ k h. at.credits k ∙ sym (shares_are c.deltas c.risks set.credits c.kept k n (omega arith) at.done)) ∙ all_spreads c.deltas c.risks set.credits;
      one_kept_each = at.one_kept_each;
      kept = at.done;
      small = λ k. turn_room set g was moved n c k limits at;
    }

-- Nothing held.
pub credits_none : (set : Tables) (c : Credited) → IsWithinLimits set → let n = length set.commodities in c.deltas ≡ replicate n (pos 0) → c.risks ≡ replicate n 0 → c.rests ≡ replicate n (pos 0) → c.credits ≡ replicate n 0 → c.kept ≡ replicate (length set.credits) nothing_kept → AreCreditsOf set c
credits_none set c limits deltas risks rests credits kept =
    let n = length set.commodities in
    let zeros = replicate n (pos 0) in
    let state = λ (i : ℕ) (h : i ≤ length set.credits). state_none n i (replicate n 0) set.credits h limits.credits in
    let long = length-replicate {A = ℤ} n (pos 0) in
    record {
      one_each = ap (λ (r : List ℤ). length r) deltas ∙ long;
      numbers = rw (deltas, risks) (record {
        one_each = length-replicate {A = ℕ} n 0 ∙ sym long;
        small_deltas = All-replicate IsDelta n (pos 0) (omega (arith, ints));
        small_risks = λ g. omega (arith, none_at n g);
      });
      one_rest_each = ap (λ (r : List ℤ). length r) (rests ∙ sym deltas);
      credits = rw (deltas, risks) (credits ∙ sym (sym (all_spreads zeros (replicate n 0) set.credits) ∙ ap (λ (p : List ℤ × List ℕ). p.1) (state (length set.credits) (omega arith))));
      one_kept_each = omega (arith, ap (λ (r : List SpreadState). length r) kept, length-replicate {A = SpreadState} (length set.credits) nothing_kept);
      kept = λ i h.
          rw (deltas, risks, kept, get_or-replicate {A = SpreadState} (length set.credits) i nothing_kept nothing_kept h) (rw (ap (λ (p : List ℤ × List ℕ). p.0) (state i (omega arith))) (kept_none n (replicate n 0) (credit_spread_at set.credits i) (limits.credits i no_credit_spread h)));
      small = λ g. omega (arith, ap (λ (r : List ℕ). slice_index r g) credits, none_at n g);
    }
