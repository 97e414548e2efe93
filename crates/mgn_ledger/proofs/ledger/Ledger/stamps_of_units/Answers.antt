use Rattle.std.proofs.Common.{◌≡◌, ℕ, length, rules}
use Rattle.mgn_day.specs.Changes.{SameUnit}
use Rattle.mgn_day.proofs.Gathers.{each-pushed}
use Rattle.mgn_ledger.proofs.ledger.Ledger.stamps_of_units.Goals as goal

pub loop-unit-preserved : goal.loop-unit-preserved
loop-unit-preserved g c =
    let day = c.args.self.now in
    let n = c.loop-unit.unit in
    let long : length c.loop-unit.since.items ≡ n = search rules in
    record {
      len = search rules;
      room = search rules;
      so_far = λ u s less. rw c.push_reserved.ensures.items (each-pushed (λ (k : ℕ) (x : _). SameUnit (g.T.Shows.shown x.1) day k) c.loop-unit.since.items c.in-Some.stamp n long c.loop-unit.invariant.so_far c.in-Some.ensures u s less);
    }
