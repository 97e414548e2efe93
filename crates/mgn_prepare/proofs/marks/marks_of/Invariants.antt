use Rattle.std.proofs.Common.{◌≡◌, map, Ok}
use Rattle.mgn_prepare.specs.declared.marks.Job.{Job}
use Rattle.mgn_prepare.proofs.marks.marks_of.Given as goal

abbrev pub invariant-loop-job : goal.invariant-loop-job
invariant-loop-job l = map Ok l.marks.items ≡ map (λ (job : Job). job.mark) l.yielded
