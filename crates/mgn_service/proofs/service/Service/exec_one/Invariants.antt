use Rattle.std.proofs.Common.{◌≡◌}
use Rattle.mgn_service.proofs.service.Service.exec_one.Given as goal

abbrev pub invariant-loop-look : goal.invariant-loop-look
invariant-loop-look g l = l.pass ≡ l.initial.pass
