use Rattle.std.proofs.Common.{◌≡◌, ◌+◌, ◌<◌, ◌≤◌, drop, length, option_map}
use Rattle.std.specs.Prelude.{◌==◌}
use Rattle.std.specs.List.{slice_split}
use Rattle.mgn_setfile.specs.File.{numbered}
use Rattle.mgn_setfile.proofs.FileLemmas.{left_of, numbers_left}
use Rattle.mgn_setfile.proofs.line.line_of.Given as goal

abbrev pub invariant-loop-rest : goal.invariant-loop-rest
invariant-loop-rest l = record {
  room : l.lines + left_of l.rest ≤ length l.fn.text + 1;
  few : l.count ≤ l.lines;
  less : l.count < l.number;
  numbers : drop l.count (numbered 0 (slice_split (λ b. b == 10) l.fn.text)) ≡ numbers_left l.lines (option_map (λ s. s.now) l.rest);
}

abbrev pub decreases-loop-rest : goal.decreases-loop-rest
decreases-loop-rest l = left_of l.rest
