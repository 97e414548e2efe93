use Rattle.std.proofs.Common.{option_map}
use Rattle.mgn_setfile.proofs.BodyLemmas.{Leads}
use Rattle.mgn_setfile.proofs.FileLemmas.{left_of}
use Rattle.mgn_setfile.proofs.body.close_lines.Given as goal

abbrev pub invariant-loop-rest : goal.invariant-loop-rest
invariant-loop-rest l = Leads l.fn.text l.bytes.items (option_map (λ s. s.now) l.rest)

abbrev pub decreases-loop-rest : goal.decreases-loop-rest
decreases-loop-rest l = left_of l.rest
