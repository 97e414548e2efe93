use Rattle.std.proofs.Common.{◌≡◌, ◌<◌, ◌≤◌, ℕ, get_or, length, vec_len}
use Rattle.std.specs.Prelude.{None}
use Rattle.std.specs.Vec.{vec_capacity}
use Rattle.mgn_unit.specs.Prepared.{ArePreparedFor}
use Rattle.mgn_unit.specs.declared.row.Row.{Row as UnitRow}
use Rattle.mgn_register.specs.BookStates.{IsUnitRow}
use Rattle.mgn_register.proofs.register.Register.rows_anew.Given as goal

abbrev pub invariant-loop-unit : goal.invariant-loop-unit
invariant-loop-unit l = record {
  len : vec_len l.rows ≡ l.unit;
  room : length l.self.rows ≤ vec_capacity l.rows;
  so_far : (u : ℕ) → u < l.unit → (d : UnitRow) → IsUnitRow l.switch.new l.self.state.accounts u (get_or l.rows.items u d);
  rest : (k : ℕ) → l.unit ≤ k → get_or l.prepared k None ≡ get_or l.initial.prepared k None;
  idle : ArePreparedFor l.switch.old l.switch.new l.self.rows l.initial.prepared → l.work ≡ l.initial.work;
}
