use Rattle.std.proofs.Common.{arith}
use Rattle.mgn_unit.proofs.prepared.required_beside.Goals as goal

pub returns-clause-alike : goal.returns-clause-alike
returns-clause-alike c beside =
    absurd (c.loop-other.invariant.0 beside.0 beside.1 (omega arith) (omega (arith, c.loop-other-test.false, beside.2)) beside.3)

pub returns-clause-taken : goal.returns-clause-taken
returns-clause-taken c beside =
    absurd (c.loop-other.invariant.0 beside.0 beside.1 (omega arith) (omega (arith, c.loop-other-test.false, beside.2)) beside.3)
