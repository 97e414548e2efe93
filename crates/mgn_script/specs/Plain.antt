-- A book of one session, with the sets of its shelf by version.
use Rattle.std.specs.Prelude.{◌≡◌, ◌+◌, ℕ, List, [], ◌∷◌, ◌++◌, length, Option, Some, None}
use Rattle.mgn_params.specs.Tables.{Tables}
use Rattle.mgn_machine.specs.History.{calls, entry, recorded}
use Rattle.mgn_machine.specs.Step.{step}
use Rattle.mgn_machine.specs.declared.reply.Answer.{Answer}
use Rattle.mgn_machine.specs.declared.reply.Refusal.TheVariants.{Full, Memory}
use Rattle.mgn_machine.specs.declared.reply.Reply.{Reply}
use Rattle.mgn_machine.specs.declared.reply.Reply.TheVariants.{Refused}
use Rattle.mgn_machine.specs.declared.request.Request.{Request}
use Rattle.mgn_book.specs.BookViews.{BookView, Stands, sets_after}
use Rattle.mgn_book.specs.declared.book.Outcome.{Outcome}
use Rattle.mgn_book.specs.declared.book.Outcome.TheVariants as outcome
use Rattle.mgn_desk.specs.Desks.{DeskRows}
use Rattle.mgn_script.specs.Desks.{AreAtRest}
use Rattle.mgn_session.specs.Session.{Call, IsUnplaced}

-- what a book of one session is seen as
pub record ScriptView : Type 0 where
  pub sets : List Tables
  pub day : BookView

-- the book stands under the sets, and all its commands came from session 1
pub record IsScriptView (sets : List Tables) (day : BookView) : Type 0 where
  pub stands : Stands sets day
  pub all : calls 1 day.history ≡ length day.history

-- and the desks of its units are as its rows are, or are to be marked
pub record IsPlain (sets : List Tables) (day : BookView) (desks : List DeskRows) : Type 0 where
  pub stands : Stands sets day
  pub all : calls 1 day.history ≡ length day.history
  pub rest : AreAtRest sets day.book desks

-- what a commit is answered
abbrev pub answer_of : Outcome → Answer
answer_of (outcome.Done place reply) = record { place = Some place; reply = reply }
answer_of outcome.Full = record { place = None; reply = Refused Full }
answer_of outcome.Memory = record { place = None; reply = Refused Memory }

-- one step of the machine and its entry, or nothing, where memory could not be had or the history has 1,000,000 entries
abbrev pub CommitsAt : List Tables → BookView → Request → Option ℕ → Reply → BookView → Type 0
CommitsAt sets old request (Some place) reply new =
    (place ≡ length old.history + 1)
    × ((new.book.state, reply) ≡ step sets old.book.state request)
    × (new.history ≡ old.history ++ entry 1 place (recorded request reply) reply ∷ [])
CommitsAt sets old request None reply new = (new ≡ old) × IsUnplaced (length old.history ≡ 1000000) ⊥ reply

-- what a call does; a set that comes into force is put with the others
abbrev pub Commits : Call ScriptView
Commits old request answer new =
    (new.sets ≡ sets_after old.sets request answer.reply) × CommitsAt new.sets old.day request answer.place answer.reply new.day
