use Rattle.std.proofs.Common.{◌≡◌, take, filter, count_by, vec_len}
use Rattle.std.specs.Vec.{vec_capacity}
use Rattle.mgn_lots.specs.declared.lot.Lot.{Lot}
use Rattle.mgn_lots.specs.Lots.{is_live}
use Rattle.mgn_statement.proofs.lines.live_lots.Given as goal

abbrev pub invariant-loop-lot : goal.invariant-loop-lot
invariant-loop-lot l = record {
  so_far : l.live.items ≡ filter (λ (x : Lot). is_live x.mark) (take l.lot-index l.lots);
  len : vec_len l.live ≡ count_by (λ (x : Lot). is_live x.mark) (take l.lot-index l.lots);
  room : vec_capacity l.live ≡ count_by (λ (x : Lot). is_live x.mark) l.lots;
}
