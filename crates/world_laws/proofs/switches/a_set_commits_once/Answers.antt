use Rattle.world_laws.proofs.Committing.{set_commits, set_full}
use Rattle.world_laws.proofs.switches.a_set_commits_once.Goals as goal

pub returns : goal.returns
returns c = record {
  commits = λ w p g reached is few. set_commits w p g is few;
  full = λ w p g is e. set_full w p g is e;
}
