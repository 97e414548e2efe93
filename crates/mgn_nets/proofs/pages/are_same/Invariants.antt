use Rattle.std.proofs.Common.{◌≡◌, ◌-◌, ◌<◌, ◌≤◌, ◌/◌, ℕ}
use Rattle.mgn_nets.specs.Pages.{cell}
use Rattle.mgn_nets.proofs.pages.are_same.Given as goal

abbrev pub invariant-loop-page : goal.invariant-loop-page
invariant-loop-page l = record {
  few : l.page ≤ 256;
  same : (k : ℕ) → k / 16 < l.page → cell l.starts l.cells k ≡ cell l.other_starts l.others k;
}

abbrev pub decreases-loop-page : goal.decreases-loop-page
decreases-loop-page l = 256 - l.page
