use Rattle.std.proofs.Common.{◌≡◌, ◌<◌, ◌≤◌, ℕ, get_or, length, vec_len}
use Rattle.std.specs.Vec.{vec_capacity}
use Rattle.mgn_unit.specs.Amounts.{AreAllKnown, no_amounts, row_with_amounts}
use Rattle.mgn_unit.specs.declared.row.Row.{Row as UnitRow}
use Rattle.mgn_register.specs.BookStates.{IsUnitRow}
use Rattle.mgn_register.proofs.register.Register.amounts_known.Given as goal

abbrev pub invariant-loop-unit : goal.invariant-loop-unit
invariant-loop-unit l = record {
  len : vec_len l.all ≡ l.unit;
  room : length l.self.rows ≤ vec_capacity l.all;
  so_far : (u : ℕ) → u < l.unit → (d : UnitRow) → IsUnitRow l.switch.new l.self.state.accounts u (row_with_amounts (get_or l.all.items u no_amounts) (get_or l.self.rows u d));
  idle : AreAllKnown l.self.rows l.known → l.work ≡ l.initial.work;
}
