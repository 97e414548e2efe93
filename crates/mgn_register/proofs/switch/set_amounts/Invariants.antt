use Rattle.std.proofs.Common.{◌≡◌, ◌<◌, ◌≤◌, ℕ, get_or, length}
use Rattle.mgn_unit.specs.Amounts.{no_amounts, row_with_amounts}
use Rattle.mgn_unit.specs.declared.row.Row.{Row as UnitRow}
use Rattle.mgn_register.proofs.switch.set_amounts.Given as goal

abbrev pub invariant-loop-unit : goal.invariant-loop-unit
invariant-loop-unit l = record {
  long : length l.rows ≡ length l.initial.rows;
  done : (u : ℕ) (d : UnitRow) → u < l.unit → get_or l.rows u d ≡ row_with_amounts (get_or l.amounts u no_amounts) (get_or l.initial.rows u d);
  rest : (u : ℕ) (d : UnitRow) → l.unit ≤ u → get_or l.rows u d ≡ get_or l.initial.rows u d;
}
