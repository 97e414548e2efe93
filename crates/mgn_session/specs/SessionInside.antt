-- A session under way, for the inside of this crate alone.
use Rattle.std.specs.Prelude.{◌≡◌, ◌⊎◌, ◌==◌, if◌then◌else◌, ℕ, List, [], ◌++◌, length, take, Result}
use Rattle.std.specs.Io.KnownBytes.{Appends, Consumes}
use Rattle.mgn_wire.specs.Text.{lines_after}
use Rattle.mgn_wire.specs.declared.fault.LineFault.{LineFault}
use Rattle.mgn_wire.specs.declared.line.Line.{Line}
use Rattle.mgn_wire.specs.declared.reply.LineReply.{LineReply}
use Rattle.mgn_session.specs.Conversation.{ConversationView}
use Rattle.mgn_session.specs.Session.{IsLost, IsSession, Step}

-- the line that ends with `last`, of which `line` has the front: all of it, unless it is empty
abbrev pub whole_line : List ℕ → List ℕ → List ℕ
whole_line line last = if length line == 0 then last else line

-- a session of which `line` tells as much of the line at hand as a line can need
pub record IsAt {X : Type 0} (step : Step X) (old new : X) (input text : List ℕ) (count : ℕ) (line : List ℕ) : Type 0 where
  pub session : IsSession step old new input text count
  pub front : take 257 line ≡ take 257 session.rest

-- Since `before` the input was taken line by line, and `pending` was read beyond it, `size` bytes together. The text of
-- the answers was written or waits.
pub record IsUnderWay {X : Type 0} (step : Step X) (before now : ConversationView) (old new : X)
    (pending : List ℕ) (size count : ℕ) (line : List ℕ) : Type 0 where
  pub input : List ℕ
  pub written : List ℕ
  pub reads : Consumes before.input now.input (input ++ pending)
  pub writes : Appends before.output now.output written
  pub at : IsAt step old new input (written ++ now.waiting) count line
  pub size_is : size ≡ length (input ++ pending)

-- The session goes no further. The text of the answers was written or waits, but for what found no memory.
pub record IsCutOff {X : Type 0} (step : Step X) (before now : ConversationView) (old new : X) : Type 0 where
  pub input : List ℕ
  pub more : List ℕ
  pub written : List ℕ
  pub lost : List ℕ
  pub count : ℕ
  pub reads : Consumes before.input now.input (input ++ more)
  pub writes : Appends before.output now.output written
  pub lost_is : IsLost lost
  pub session : IsSession step old new input ((written ++ now.waiting) ++ lost) count

-- A line has no reply for want of memory: nothing was done, or it was answered with a statement, which has lines of its own
-- after that of its reply.
abbrev pub GoesWithout : {X : Type 0} → Step X → X → Result Line LineFault → X → Type 0
GoesWithout step old read new = (new ≡ old) ⊎ ((reply : LineReply) × (lines_after reply ≡ [] → ⊥) × step old read reply new)
