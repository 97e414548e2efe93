use Rattle.world_laws.proofs.Passing.{is_over, is_refused, is_stale, looks_again}
use Rattle.world_laws.proofs.example.a_set_passes_a_hold.Goals as goal

pub returns : goal.returns
returns c = record { stale = is_stale; again = looks_again; refused = is_refused; over = is_over }
