use Rattle.std.proofs.Common.{◌≡◌, ◌≤◌, ◌+◌, ◌-◌, drop, length}
use Rattle.mgn_session.specs.Conversation.{line_ends}
use Rattle.mgn_session.proofs.ends.count_ends.Given as goal

abbrev pub invariant-loop-at : goal.invariant-loop-at
invariant-loop-at l = record {
  within : l.at ≤ length l.text;
  few : l.count ≤ l.at;
  count : l.count + line_ends (drop l.at l.text) ≡ line_ends l.text;
}

abbrev pub decreases-loop-at : goal.decreases-loop-at
decreases-loop-at l = length l.text - l.at
