use Rattle.std.proofs.Common.{◌≡◌, ◌<◌, ℕ, true}
use Rattle.mgn_machine.specs.Refusals.{has_contract}
use Rattle.mgn_params.specs.Tables.{contract_at}
use Rattle.mgn_unit.proofs.new_set.has_all_contracts.Given as goal

abbrev pub invariant-loop-contract : goal.invariant-loop-contract
invariant-loop-contract l = (k : ℕ) → k < l.contract → has_contract l.new (contract_at l.old.contracts k).name ≡ true
