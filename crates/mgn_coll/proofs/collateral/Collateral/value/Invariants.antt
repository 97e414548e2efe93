use Rattle.std.proofs.Common.{◌≡◌, ◌≤◌, ◌^◌, ◌+◌, ◌*◌, take}
use Rattle.std.specs.List.{sum_by}
use Rattle.mgn_params.specs.declared.tables.Class.{Class}
use Rattle.mgn_coll.specs.Posted.{class_value, units_of}
use Rattle.mgn_coll.proofs.collateral.Collateral.value.Given as goal

abbrev pub invariant-loop-class : goal.invariant-loop-class
invariant-loop-class l = record {
  sum : l.total ≡ l.self.cash + sum_by (λ (class : Class). class_value class (units_of class.name l.self.units)) (take l.class-index l.class-items);
  small : l.total ≤ 10 ^ 15 + l.class-index * 10 ^ 17;
}
