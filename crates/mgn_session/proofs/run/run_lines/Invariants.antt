use Rattle.std.proofs.Common.{◌≡◌, ◌-◌, ◌≤◌, []}
use Rattle.mgn_session.specs.Conversation.{IsQuiet}
use Rattle.mgn_session.specs.Session.{Answers, Calls}
use Rattle.mgn_session.specs.SessionInside.{IsUnderWay}
use Rattle.mgn_session.proofs.run.run_lines.Given as goal

abbrev pub invariant-loop-left : goal.invariant-loop-left
invariant-loop-left g l = record {
  way : IsUnderWay (Answers (Calls g.E.Exec.entries g.E.Exec.is_full g.E.Exec.is_broken g.E.Exec.does) g.S.SetSource.gives) l.fn.talk l.talk (l.fn.exec, l.fn.source) (l.exec, l.source) [] (268435456 - l.left) l.lines.lines l.lines.line.items;
  left : l.left ≤ 268435456;
  lines : l.lines.lines ≤ 1000000;
  quiet : IsQuiet l.talk;
  failed_reads : l.talk.failed_reads ≡ l.fn.talk.failed_reads;
  failed_writes : l.talk.failed_writes ≡ l.fn.talk.failed_writes;
}

abbrev pub decreases-loop-left : goal.decreases-loop-left
decreases-loop-left g l = l.left
