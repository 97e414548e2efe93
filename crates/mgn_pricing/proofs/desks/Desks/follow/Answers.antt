use Rattle.std.proofs.Common.{sym, subst}
use Rattle.mgn_plan.specs.declared.plans.Plan.{Plan}
use Rattle.mgn_plan.specs.Plans.{IsPossible}
use Rattle.mgn_pricing.specs.Desks.{AreDesks, KeepsUnplanned}
use Rattle.mgn_pricing.proofs.Planned.{one-moved, two-keeps, two-moved}
use Rattle.mgn_pricing.proofs.desks.Desks.follow.Goals as goal

pub returns-in_ok-second-in-Two-clause-desks : goal.returns-in_ok-second-in-Two-clause-desks
returns-in_ok-second-in-Two-clause-desks c =
    let set' = c.args.set.now in
    let version = c.args.version in
    let rows = c.args.rows.now in
    let giver = c.in-Two.giver in
    let taker = c.in-Two.taker in
    let between = c.foresee_one-in-Two.new.self in
    let after = c.foresee_one-in-Two-2.new.self in
    let possible = subst (λ (p : Plan). IsPossible set' rows p) c.in-Two.is c.requires.possible in
    let first = c.in_ok-first-in-Two.ensures in
    let second = c.in_ok-second-in-Two.ensures in
    let one = one-moved set' version rows giver c.args.self.now between c.requires.rest first.ready first.others (first.few c.requires.rest.few) in
    let two = two-moved set' version rows giver taker between after possible.2 one second.ready second.others (second.few one.few) in
    subst (λ (p : Plan). AreDesks set' version p rows after) (sym c.in-Two.is) two

pub returns-in_ok-second-in-Two-clause-others : goal.returns-in_ok-second-in-Two-clause-others
returns-in_ok-second-in-Two-clause-others c =
    let first = c.in_ok-first-in-Two.ensures in
    let second = c.in_ok-second-in-Two.ensures in
    let kept = two-keeps c.in-Two.giver c.in-Two.taker c.args.self.now c.foresee_one-in-Two.new.self c.foresee_one-in-Two-2.new.self first.others second.others in
    subst (λ (p : Plan). KeepsUnplanned p c.args.self.now c.foresee_one-in-Two-2.new.self) (sym c.in-Two.is) kept
