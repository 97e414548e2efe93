use Rattle.std.proofs.Common.{◌≡◌, ◌≤◌, ◌-◌, ℕ, drop, length}
use Rattle.mgn_session.specs.Conversation.{ConversationView, KeepsDevices, line_ends}
use Rattle.mgn_session.specs.Session.{Answers, Calls}
use Rattle.mgn_session.specs.SessionInside.{IsUnderWay}
use Rattle.mgn_session.proofs.line_buffer.LineBuffer.take_chunk.Given as goal

abbrev pub invariant-loop-at : goal.invariant-loop-at
invariant-loop-at g l = record {
  within : l.at ≤ length l.chunk;
  lines : l.self.lines ≤ 1000000;
  owed : l.talk.owed ≡ line_ends (drop l.at l.chunk);
  devices : KeepsDevices l.fn.talk l.talk;
  so_far : (before : ConversationView) (first : _) (size : ℕ)
      → IsUnderWay (Answers (Calls g.E.Exec.entries g.E.Exec.is_full g.E.Exec.is_broken g.E.Exec.does) g.S.SetSource.gives) before l.fn.talk first (l.fn.exec, l.fn.source) l.chunk size l.fn.self.lines l.fn.self.line.items
      → IsUnderWay (Answers (Calls g.E.Exec.entries g.E.Exec.is_full g.E.Exec.is_broken g.E.Exec.does) g.S.SetSource.gives) before l.talk first (l.exec, l.source) (drop l.at l.chunk) size l.self.lines l.self.line.items;
}

abbrev pub decreases-loop-at : goal.decreases-loop-at
decreases-loop-at g l = length l.chunk - l.at
