use Rattle.std.proofs.Common.{◌≡◌, ◌≤◌, ◌^◌, ◌+◌, ◌*◌, take}
use Rattle.std.specs.List.{sum_by}
use Rattle.mgn_params.specs.declared.tables.Class.{Class}
use Rattle.mgn_coll.specs.Posted.{class_value, units_of, with_amount}
use Rattle.mgn_coll.proofs.collateral.Collateral.value_with.Given as goal

abbrev pub invariant-loop-priced : goal.invariant-loop-priced
invariant-loop-priced l = record {
  sum : l.worth ≡ (with_amount l.self l.class l.amount).cash + sum_by (λ (class : Class). class_value class (units_of class.name (with_amount l.self l.class l.amount).units)) (take l.priced-index l.priced-items);
  small : l.worth ≤ 10 ^ 15 + l.priced-index * 10 ^ 17;
}
