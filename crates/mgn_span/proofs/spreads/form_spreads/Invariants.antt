use Rattle.std.proofs.Common.{◌≡◌, ◌≤◌, ◌*◌, ◌^◌, take}
use Rattle.std.specs.List.{flat_map}
use Rattle.mgn_span.specs.Stages.{charges_of, left_by, stages_of_spread}
use Rattle.mgn_span.proofs.spreads.form_spreads.Given as goal

abbrev pub invariant-loop-spread : goal.invariant-loop-spread
invariant-loop-spread l = record {
  left : l.left ≡ left_by l.initial.left (flat_map stages_of_spread (take l.spread-index l.spreads));
  charge : l.charged ≡ charges_of l.initial.left (flat_map stages_of_spread (take l.spread-index l.spreads));
  small : l.charged ≤ l.spread-index * (4 * 10 ^ 25);
}
