use Rattle.std.proofs.Common.{◌≡◌, ◌≤◌, ◌*◌, ◌^◌, take}
use Rattle.mgn_lots.specs.Lots.{gross}
use Rattle.mgn_lots.proofs.lots.Lots.gross.Given as goal

abbrev pub invariant-loop-lot : goal.invariant-loop-lot
invariant-loop-lot l = record {
  sum : l.gross ≡ gross l.contract (take l.lot-index l.lot-items);
  small : l.gross ≤ l.lot-index * 10 ^ 6;
}
