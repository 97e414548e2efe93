use Rattle.std.proofs.Common.{◌≡◌, ◌-◌, ◌<◌, ◌≤◌, ℕ}
use Rattle.mgn_nets.specs.PageSets.{has_page}
use Rattle.mgn_nets.proofs.page_set.PageSet.next.Given as goal

-- none of the pages so far
abbrev pub invariant-loop-page : goal.invariant-loop-page
invariant-loop-page l = record {
  from : l.from ≤ l.page;
  few : l.page ≤ 256;
  passed : (k : ℕ) → l.from ≤ k → k < l.page → has_page l.self.words k ≡ 0;
}

abbrev pub decreases-loop-page : goal.decreases-loop-page
decreases-loop-page l = 256 - l.page
