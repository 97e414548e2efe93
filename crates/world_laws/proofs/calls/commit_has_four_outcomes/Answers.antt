use Rattle.world_laws.proofs.Committing.{commit_done, commit_full, commit_refused, commit_stale}
use Rattle.world_laws.proofs.calls.commit_has_four_outcomes.Goals as goal

pub returns : goal.returns
returns c = record {
  full = λ w p k l is e. commit_full w p k l is e;
  stale = λ w p k l reached is few less. commit_stale w p k l reached is few less;
  done = λ w p k l reached is few same done. commit_done w p k l reached is few same done;
  refused = λ w p k l reached is few same no. commit_refused w p k l reached is few same no;
}
