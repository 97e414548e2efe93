use Rattle.std.proofs.Common.{◌≡◌, take}
use Rattle.mgn_num.specs.Signed.{signed_sum_by}
use Rattle.mgn_machine.specs.Totals.{in_origin}
use Rattle.mgn_register.specs.Balances.{IsBalance, balance_over}
use Rattle.mgn_register.proofs.register.Register.gross_balance.Given as goal

abbrev pub invariant-loop-place : goal.invariant-loop-place
invariant-loop-place l = record {
  so_far : l.total ≡ balance_over l.set l.self.state.accounts (λ figure. signed_sum_by (in_origin l.origin figure) (take l.place l.self.state.accounts));
  limits : IsBalance l.place l.total;
}
