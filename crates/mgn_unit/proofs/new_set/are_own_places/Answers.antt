use Rattle.std.proofs.Common.{arith, rules}
use Rattle.mgn_unit.proofs.InPlace.{own-all, own-length, own-at}
use Rattle.mgn_unit.proofs.new_set.are_own_places.Goals as goal

pub returns-then-places-count : goal.returns-then-places-count
returns-then-places-count c =
    (search rules, λ own. absurd (c.if-places-count.true (own-length c.args.places.now c.args.count own)))

pub returns-then-not-is_place : goal.returns-then-not-is_place
returns-then-not-is_place c =
    (search rules, λ own. c.if-not-is_place.ensures.1 (own-at c.args.places.now c.args.count c.loop-i.i own c.loop-i-test.true))

pub returns : goal.returns
returns c =
    (λ all. own-all c.args.places.now c.args.count c.if-places-count.false (λ k less. c.loop-i.invariant k (omega (arith, less))), search rules)
