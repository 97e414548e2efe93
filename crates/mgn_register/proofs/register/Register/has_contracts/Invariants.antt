use Rattle.std.proofs.Common.{◌≡◌, ◌<◌, ℕ, get_or, true}
use Rattle.mgn_unit.specs.NewSets.{is_covered}
use Rattle.mgn_unit.specs.declared.row.Row.{Row as UnitRow}
use Rattle.mgn_register.proofs.register.Register.has_contracts.Given as goal

abbrev pub invariant-loop-unit : goal.invariant-loop-unit
invariant-loop-unit l = (k : ℕ) → k < l.unit → (d : UnitRow) → is_covered l.old l.new (get_or l.self.rows k d).sizes ≡ true
