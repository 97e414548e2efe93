use Rattle.std.proofs.Common.{arith}
use Rattle.mgn_unit.proofs.Covered.{every-covered}
use Rattle.mgn_unit.proofs.new_set.has_all_contracts.Goals as goal

pub returns : goal.returns
returns c =
    λ yes sizes. every-covered c.args.old.now c.args.new.now sizes (λ k inside. c.loop-contract.invariant k (omega (arith, inside)))
