use Rattle.std.proofs.Common.{◌≡◌, ◌∙◌, ◌<◌, ◌≤◌, ◌+◌, ◌-◌, ℕ, List, ap, arith, false, length, refl, subst}
use Rattle.std.specs.Int.{bit_at}
use Rattle.std.proofs.lemmas.List.Elements.{All-nil}
use Rattle.mgn_params.specs.declared.tables.CreditSpread.{CreditSpread}
use Rattle.mgn_params.specs.Tables.{credit_spread_at, legs_of}
use Rattle.mgn_inter.specs.Credited.{IsAtTurn}
use Rattle.mgn_inter.specs.Rows.{Misses, names}
use Rattle.mgn_inter.specs.Told.{credits_else, told_of}
use Rattle.mgn_inter.proofs.ToldLemmas.{places_below, told_next, told_none}
use Rattle.mgn_inter.proofs.TurnLemmas.{misses_of, turn_jumped, turn_last, turn_skipped, waiting_first}
use Rattle.mgn_inter.proofs.ReworkedLemmas.{others_next, places_next}
use Rattle.mgn_inter.proofs.inter.InterCredits.rework_reached.Goals as goal
use Rattle.mgn_inter.proofs.inter.InterCredits.rework_reached.Goals.{After-min-i}

misses : (c : After-min-i) → Misses c.args.set.now.credits c.args.naming c.args.g
misses c = misses_of c.args.set.now.credits c.args.g c.args.naming c.requires.naming

count_is : (c : After-min-i) → length c.credits-count.result.now ≡ length c.args.set.now.credits
count_is c = ap (λ (ss : List CreditSpread). length ss) c.credits-count.ensures

pub loop-i-init : goal.loop-i-init
loop-i-init c =
    let set' = c.args.set.now in
    let first : c.min-i.result ≤ length set'.credits = omega (arith, c.min-i.ensures, count_is c) in
    let passed : (i : ℕ) → i < c.min-i.result → names c.args.g (legs_of (credit_spread_at set'.credits i)) ≡ false = λ i low. misses c i (omega arith) (c.first_place.ensures.passed i (omega (arith, c.min-i.ensures))) in
    record {
      turn = (c.requires.turn.0, turn_skipped set' c.args.g c.requires.turn.0 c.args.self.now c.min-i.result first passed c.requires.turn.1);
      waiting = λ j from there none. waiting_first set'.credits c.args.g c.args.naming (misses c) j (omega arith) there none;
      numbers = (refl, refl);
      inside = first;
      places = rw c.none-reworked.ensures (All-nil (λ (i : ℕ). i < length set'.credits));
      others = λ k h. refl;
      left = λ j from. refl;
      told = rw c.none-reworked.ensures (told_none c.args.self.now.kept c.min-i.result);
    }

-- the places so far are of spreads before this one
pub turn-requires-clause-behind : goal.turn-requires-clause-behind
turn-requires-clause-behind c =
    let i = c.loop-i.i in
    rw c.loop-i.invariant.told (places_below (credits_else c.args.self.now.kept c.loop-i.self.kept) i)

pub loop-i-preserved : goal.loop-i-preserved
loop-i-preserved c =
    let set' = c.args.set.now in
    let now = c.loop-i.invariant in
    let count : length c.credits-count.result.now ≡ length set'.credits = ap (λ (ss : List CreditSpread). length ss) c.credits-count.ensures in
    let inside : c.loop-i.i < length set'.credits = omega (arith, c.loop-i-test.true, count) in
    let after = c.loop-i.i + 1 in
    let next = c.min-i-in-loop-i.result in
    let far : next ≤ length set'.credits = omega (arith, c.min-i-in-loop-i.ensures, count) in
    let behind : after ≤ next = omega (arith, c.min-i-in-loop-i.ensures, count, inside, c.next_place.ensures.behind) in
    let none : (k : ℕ) → after ≤ k → k < next → bit_at c.turn.new.waiting k ≡ 0 = λ k from low. c.next_place.ensures.passed k (omega (arith, from)) (omega (arith, low, c.min-i-in-loop-i.ensures)) in
    let there : after + (next - after) ≡ next = omega (arith, behind) in
    let turned = c.turn.ensures.turn now.turn.0 now.turn.1 in
    let jumped = turn_jumped set' c.args.g now.turn.0 c.turn.new.moved c.turn.new.self after (next - after) (omega (arith, far, there)) (λ k from low. c.turn.ensures.waiting k from (omega (arith, low, far, there)) (none k from (omega (arith, low, there)))) turned in
    record {
      turn = (now.turn.0, subst (λ (m : ℕ). IsAtTurn set' c.args.g now.turn.0 c.turn.new.moved m c.turn.new.self) there jumped);
      waiting = λ j from low unset. c.turn.ensures.waiting j (omega (arith, from, behind)) low unset;
      numbers = (c.turn.ensures.numbers.0 ∙ now.numbers.0, c.turn.ensures.numbers.1 ∙ now.numbers.1);
      inside = far;
      places = places_next (length set'.credits) c.loop-i.reworked c.turn.new.reworked c.loop-i.i inside now.places c.turn.ensures.places;
      others = λ k h.
          c.turn.ensures.others k h ∙ now.others k (others_next k set'.credits c.loop-i.reworked c.turn.new.reworked c.loop-i.i c.turn.ensures.places h);
      left = λ j from.
          c.turn.ensures.kept j (λ e. omega (arith, e, from, behind)) ∙ now.left j (omega (arith, from, behind));
      told = told_next c.args.self.now.kept c.loop-i.self.kept c.turn.new.self.kept c.loop-i.i next c.loop-i.reworked c.turn.new.reworked behind now.left c.turn.ensures.kept now.told c.turn.ensures.told;
    }

pub returns-clause-of_set : goal.returns-clause-of_set
returns-clause-of_set c =
    let set' = c.args.set.now in
    let now = c.loop-i.invariant.turn in
    let count : length c.credits-count.result.now ≡ length set'.credits = ap (λ (ss : List CreditSpread). length ss) c.credits-count.ensures in
    let end : c.loop-i.i ≡ length set'.credits = omega (arith, count, c.loop-i.invariant.inside, c.loop-i-test.false) in
    turn_last set' c.args.g now.0 c.loop-i.moved c.loop-i.self c.limits.ensures (subst (λ (n : ℕ). IsAtTurn set' c.args.g now.0 c.loop-i.moved n c.loop-i.self) end now.1)

pub returns-clause-told : goal.returns-clause-told
returns-clause-told c =
    let set' = c.args.set.now in
    let count : length c.credits-count.result.now ≡ length set'.credits = ap (λ (ss : List CreditSpread). length ss) c.credits-count.ensures in
    let end : c.loop-i.i ≡ length set'.credits = omega (arith, count, c.loop-i.invariant.inside, c.loop-i-test.false) in
    c.loop-i.invariant.told ∙ ap (λ (n : ℕ). told_of c.args.self.now.kept c.loop-i.self.kept n) end
