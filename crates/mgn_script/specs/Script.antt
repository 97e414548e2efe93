-- What the machine does for the lines of a script, by its history. The sets are all those of the book's shelf in the end, by
-- version: those that come later change nothing that was answered before.
use Rattle.std.specs.Prelude.{◌≡◌, ◌+◌, ℕ, List, [], ◌∷◌, ◌++◌, length, Option, Some, None}
use Rattle.mgn_params.specs.Tables.{Tables}
use Rattle.mgn_machine.specs.History.{entry, recorded, replay, request_of}
use Rattle.mgn_machine.specs.Step.{step}
use Rattle.mgn_machine.specs.declared.entry.Entry.{Entry}
use Rattle.mgn_machine.specs.declared.reply.Reply.{Reply}
use Rattle.mgn_machine.specs.declared.request.Request.{Request}
use Rattle.mgn_session.specs.Session.{Call, IsUnplaced}

-- a step: its entry is next, has the machine's reply after the history, and keeps this very request: the version of a set
-- that came into force shows that set; or no step, where memory could not be had or the history has 1,000,000 entries
abbrev pub StepsAt : List Tables → List Entry → Request → Option ℕ → Reply → List Entry → Type 0
StepsAt sets old request (Some place) reply new =
    (place ≡ length old + 1)
    × (reply ≡ (step sets (replay sets old) request).1)
    × (request_of sets (recorded request reply) ≡ request)
    × (new ≡ old ++ entry 1 place (recorded request reply) reply ∷ [])
StepsAt sets old request None reply new = (new ≡ old) × IsUnplaced (length old ≡ 1000000) ⊥ reply

-- the machine as an executor, which is seen by its history
abbrev pub Steps : List Tables → Call (List Entry)
Steps sets old request answer new = StepsAt sets old request answer.place answer.reply new
