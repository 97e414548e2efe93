use Rattle.std.proofs.Common.{sym, subst}
use Rattle.mgn_plan.specs.declared.plans.Plan.{Plan}
use Rattle.mgn_plan.specs.Plans.{IsPossible}
use Rattle.mgn_pricing.specs.Desks.{AreDesks, KeepsUnplanned}
use Rattle.mgn_pricing.proofs.Planned.{one-back, one-keeps, one-marked, second-back, two-keeps-back}
use Rattle.mgn_pricing.proofs.desks.Desks.take_back.Goals as goal

pub returns-in-One : goal.returns-in-One
returns-in-One c =
    let set' = c.args.set.now in
    let moved = subst (λ (p : Plan). AreDesks set' c.args.version p c.args.rows.now c.args.self.now) c.in-One.is c.requires.moved in
    let back = c.take_back_one.ensures in
    let kept = one-keeps c.in-One.change c.args.self.now c.take_back_one.new.self back.others in
    record {
      rest = one-back set' c.args.version c.args.rows.now c.in-One.change c.args.self.now c.take_back_one.new.self moved back.rests back.others back.long;
      marked = one-marked c.args.version c.in-One.change c.args.self.now c.take_back_one.new.self back.of_version back.others;
      others = subst (λ (p : Plan). KeepsUnplanned p c.args.self.now c.take_back_one.new.self) (sym c.in-One.is) kept;
    }

pub returns-in-Two : goal.returns-in-Two
returns-in-Two c =
    let set' = c.args.set.now in
    let version = c.args.version in
    let rows = c.args.rows.now in
    let giver = c.in-Two.giver in
    let taker = c.in-Two.taker in
    let moved = subst (λ (p : Plan). AreDesks set' version p rows c.args.self.now) c.in-Two.is c.requires.moved in
    let between = c.take_back_one-in-Two.new.self in
    let after = c.take_back_one-in-Two-2.new.self in
    let possible = subst (λ (p : Plan). IsPossible set' rows p) c.in-Two.is c.requires.possible in
    let first = c.take_back_one-in-Two.ensures in
    let second = c.take_back_one-in-Two-2.ensures in
    let one = second-back set' version rows giver taker c.args.self.now c.take_back_one-in-Two.new.self possible.2 moved first.rests first.others first.long in
    record {
      rest = one-back set' version rows giver c.take_back_one-in-Two.new.self c.take_back_one-in-Two-2.new.self one second.rests second.others second.long;
      marked = λ k is.
          one-marked version giver between after second.of_version second.others k (one-marked version taker c.args.self.now between first.of_version first.others k is);
      others = subst (λ (p : Plan). KeepsUnplanned p c.args.self.now after) (sym c.in-Two.is) (two-keeps-back giver taker c.args.self.now between after first.others second.others);
    }
