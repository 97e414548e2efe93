use Rattle.std.proofs.Common.{◌≡◌, ◌≤◌, ◌*◌, ◌^◌, take}
use Rattle.std.specs.Prelude.{unsigned_abs}
use Rattle.mgn_lots.specs.Lots.{net}
use Rattle.mgn_lots.proofs.lots.Lots.net.Given as goal

abbrev pub invariant-loop-lot : goal.invariant-loop-lot
invariant-loop-lot l = record {
  sum : l.net ≡ net l.contract (take l.lot-index l.lot-items);
  small : unsigned_abs l.net ≤ l.lot-index * 10 ^ 6;
}
