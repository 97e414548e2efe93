use Rattle.std.proofs.Common.{◌≡◌, ◌≢◌, ◌∙◌, ◌<◌, ◌≤◌, ◌+◌, ◌-◌, ℕ, Bool, List, ⊎_elim, ap, arith, false, length, refl, replicate, slice_set, subst, sym, true}
use Rattle.std.specs.Int.{bit_at}
use Rattle.std.proofs.lemmas.Bool.{cases_eq}
use Rattle.mgn_params.specs.declared.tables.CreditSpread.{CreditSpread}
use Rattle.mgn_params.specs.Tables.{credit_spread_at, legs_of}
use Rattle.mgn_span.specs.Scan.{value_at}
use Rattle.mgn_inter.specs.declared.spread_state.SpreadState.{SpreadState}
use Rattle.mgn_inter.specs.Credited.{IsAtTurn}
use Rattle.mgn_inter.specs.Rows.{Credited, Misses, names}
use Rattle.mgn_inter.specs.Told.{credits_at}
use Rattle.mgn_inter.proofs.QuietLemmas.{quiet_forms, turn_quiet}
use Rattle.mgn_inter.proofs.StateLemmas.{kept_other, kept_own}
use Rattle.mgn_inter.proofs.TurnLemmas.{misses_of, turn_jumped, turn_last, turn_skipped, waiting_first}
use Rattle.mgn_inter.proofs.inter.InterCredits.pass_all.Goals as goal
use Rattle.mgn_inter.proofs.inter.InterCredits.pass_all.Goals.{After-min-i}

misses : (c : After-min-i) → Misses c.args.set.now.credits c.args.naming c.args.g
misses c = misses_of c.args.set.now.credits c.args.g c.args.naming c.requires.naming

count_is : (c : After-min-i) → length c.credits-spreads.result.now ≡ length c.args.set.now.credits
count_is c = ap (λ (ss : List CreditSpread). length ss) c.credits-spreads.ensures

pub loop-i-init : goal.loop-i-init
loop-i-init c =
    let set' = c.args.set.now in
    let was = c.requires.quiet.0 in
    let first : c.min-i.result ≤ length set'.credits = omega (arith, c.min-i.ensures, count_is c) in
    let passed : (i : ℕ) → i < c.min-i.result → names c.args.g (legs_of (credit_spread_at set'.credits i)) ≡ false = λ i low. misses c i (omega arith) (c.first_place.ensures.passed i (omega (arith, c.min-i.ensures))) in
    record {
      turn = (was, turn_skipped set' c.args.g was c.args.self.now c.min-i.result first passed c.requires.quiet.1, c.requires.quiet.2, c.requires.quiet.3);
      inside = first;
      here = λ low.
          let same : c.first_place.result ≡ c.min-i.result = omega (arith, c.min-i.ensures, low, count_is c) in
          subst (λ (k : ℕ). bit_at c.args.naming k ≡ 1) same (c.first_place.ensures.here (omega (arith, same, low, c.limits.ensures.few_credits)));
      rest = c.requires.rest;
      numbers = (refl, refl);
      credits = refl;
      same = λ j. refl;
    }

pub loop-i-preserved : goal.loop-i-preserved
loop-i-preserved c =
    let set' = c.args.set.now in
    let g = c.args.g in
    let start = (goal.at.loop-i-preserved c).After-min-i in
    let now = c.loop-i.invariant in
    let was = now.turn.0 in
    let i = c.loop-i.i in
    let self = c.loop-i.self in
    let only : List Bool = slice_set (replicate 256 false) g true in
    let places = c.args.naming in
    let count = count_is start in
    let inside : i < length set'.credits = omega (arith, c.loop-i-test.true, count) in
    let low : g < 256 = omega (arith, c.requires.commodity, c.limits.ensures.few_commodities) in
    let bit : bit_at places i ≡ 1 = now.here inside in
    let they_dont = now.turn.3 i inside bit in
    let they_dont_now = quiet_forms set' g was i places self c.args.rest now.turn.1 inside low now.rest now.turn.2 (misses start) now.turn.3 bit in
    let own = c.pass.ensures.0 in
    let is = c.pass.ensures.1 in
    let moved = c.pass.ensures.2 in
    let turned = turn_quiet set' g was i self own c.args.rest now.turn.1 inside low now.rest they_dont they_dont_now moved in
    let after = i + 1 in
    let next = c.min-i-in-loop-i.result in
    let far : next ≤ length set'.credits = omega (arith, c.min-i-in-loop-i.ensures, count) in
    let behind : after ≤ next = omega (arith, c.min-i-in-loop-i.ensures, count, inside, c.next_place.ensures.behind) in
    let none : (k : ℕ) → after ≤ k → k < next → bit_at c.args.naming k ≡ 0 = λ k from below. c.next_place.ensures.passed k (omega (arith, from)) (omega (arith, below, c.min-i-in-loop-i.ensures)) in
    let there : after + (next - after) ≡ next = omega (arith, behind) in
    let here = subst (λ (r : Credited). IsAtTurn set' g was only after r) (sym is) turned in
    let jumped = turn_jumped set' g was only c.pass.new.self after (next - after) (omega (arith, far, there)) (λ k from below. waiting_first set'.credits g c.args.naming (misses start) k (omega arith) (omega (arith, below, far, there)) (none k from (omega (arith, below, there)))) here in
    record {
      turn = (was, subst (λ (m : ℕ). IsAtTurn set' g was only m c.pass.new.self) there jumped, now.turn.2, now.turn.3);
      inside = far;
      here = λ below.
          let same : c.next_place.result ≡ next = omega (arith, c.min-i-in-loop-i.ensures, below, count) in
          subst (λ (k : ℕ). bit_at c.args.naming k ≡ 1) same (c.next_place.ensures.here (omega (arith, same, below, c.limits.ensures.few_credits)));
      rest = ap (λ (r : Credited). value_at r.rests g) is ∙ now.rest;
      numbers = (ap (λ (r : Credited). r.deltas) is ∙ now.numbers.0, ap (λ (r : Credited). r.risks) is ∙ now.numbers.1);
      credits = ap (λ (r : Credited). r.credits) is ∙ now.credits;
      same = λ j.
          ap (λ (r : Credited). credits_at r.kept j) is
          ∙ ⊎_elim
          (λ (mine : j ≡ i).
          let low_kept : i < length self.kept = omega (arith, inside, now.turn.1.one_kept_each) in
          rw (mine, kept_own self.kept i own low_kept) (moved.credits ∙ now.same i))
          (λ (other : j ≢ i).
          ap (λ (k : SpreadState). k.credits) (kept_other self.kept i j own other) ∙ now.same j)
          (cases_eq j i);
    }

pub returns-clause-of_set : goal.returns-clause-of_set
returns-clause-of_set c =
    let set' = c.args.set.now in
    let now = c.loop-i.invariant.turn in
    let count : length c.credits-spreads.result.now ≡ length set'.credits = ap (λ (ss : List CreditSpread). length ss) c.credits-spreads.ensures in
    let end : c.loop-i.i ≡ length set'.credits = omega (arith, count, c.loop-i.invariant.inside, c.loop-i-test.false) in
    let only : List Bool = slice_set (replicate 256 false) c.args.g true in
    turn_last set' c.args.g now.0 only c.loop-i.self c.limits.ensures (subst (λ (n : ℕ). IsAtTurn set' c.args.g now.0 only n c.loop-i.self) end now.1)
