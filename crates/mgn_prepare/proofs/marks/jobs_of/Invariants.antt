use Rattle.std.proofs.Common.{◌≡◌, map}
use Rattle.mgn_prepare.specs.declared.marks.Job.{Job}
use Rattle.mgn_prepare.proofs.marks.jobs_of.Given as goal

abbrev pub invariant-loop-one : goal.invariant-loop-one
invariant-loop-one l = map (λ (job : Job). job.nets) l.jobs.items ≡ l.yielded
