use Rattle.std.proofs.Common.{◌≡◌, ◌≤◌, length, vec_len}
use Rattle.std.specs.Vec.{vec_capacity}
use Rattle.mgn_unit.specs.Amounts.{AreKnown}
use Rattle.mgn_pricing.specs.Desks.{AreNumbered, StayEmpty}
use Rattle.mgn_pricing.proofs.Marked.{RestTo, ToldTo}
use Rattle.mgn_pricing.proofs.desks.Desks.mark_all.Given as goal

abbrev pub invariant-loop-unit : goal.invariant-loop-unit
invariant-loop-unit l = record {
  long : length l.self-inside.desks.items ≡ length l.fn.self;
  numbered : AreNumbered l.self-inside.desks.items;
  len : vec_len l.known ≡ l.unit;
  room : length l.fn.self ≤ vec_capacity l.known;
  known : AreKnown l.set l.rows l.known.items;
  rest : RestTo l.set l.version l.rows l.self-inside.desks.items l.unit;
  told : ToldTo l.version l.self-inside.desks.items l.known.items l.unit;
  empty : StayEmpty l.fn.self l.self-inside.desks.items;
}
