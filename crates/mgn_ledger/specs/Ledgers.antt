-- What lies under the lock of the book, and what a call does there (own profile).
use Rattle.std.specs.Prelude.{ℕ, ◌≡◌, ◌⊎◌, ◌+◌, ◌<◌, ◌≤◌, ◌++◌, ◌∷◌, [], Bool, false, List, length, take, slice_index_or, Option, Some, None}
use Rattle.mgn_machine.specs.declared.command.Command.{Command}
use Rattle.mgn_machine.specs.declared.reply.Refusal.TheVariants.{Memory, Full, Broken}
use Rattle.mgn_machine.specs.declared.reply.Reply.{Reply}
use Rattle.mgn_machine.specs.declared.reply.Reply.TheVariants.{Refused}
use Rattle.mgn_machine.specs.declared.reply.Answer.{Answer}
use Rattle.mgn_machine.specs.declared.request.Request.{Request}
use Rattle.mgn_machine.specs.declared.request.Request.TheVariants.{Do}
use Rattle.mgn_machine.specs.History.{entry, recorded, request_of}
use Rattle.mgn_plan.specs.declared.plans.Plan.{Plan}
use Rattle.mgn_book.specs.BookViews.{Begins, Stands}
use Rattle.mgn_day.specs.Changes.{AreUnchangedSince, Leads}
use Rattle.mgn_day.specs.Days.{Day}
use Rattle.mgn_ledger.specs.Passes.{IsCalled, PassView}
use Rattle.mgn_ledger.specs.declared.entered.Entered.{Entered}
use Rattle.mgn_ledger.specs.declared.entered.Entered.TheVariants.{Placed, Unplaced}

-- The day goes on by one entry, at the end of its history. A set that came into force stands by the version that shows it.
pub record GoesOn (old : Day) (session number : ℕ) (request : Request) (place : ℕ) (reply : Reply) (new : Day) : Type 0 where
  pub sets : Begins old.sets new.sets
  pub history : new.book.history ≡ old.book.history ++ entry session number (recorded request reply) reply ∷ []
  pub ends : place ≡ length new.book.history
  pub stands : Stands new.sets new.book
  pub asked : request_of new.sets (recorded request reply) ≡ request

-- the day up to its n-th entry
pub record IsBefore (n : ℕ) (before day : Day) : Type 0 where
  pub sets : Begins before.sets day.sets
  pub history : before.book.history ≡ take n day.book.history
  pub stands : Stands before.sets before.book

-- each entry has a stamp, which shows the day up to it
pub record AreStamped {T : Type 0} (shown : T → Day) (stamps : List T) (day : Day) : Type 0 where
  pub long : length stamps ≡ length day.book.history
  pub at : (k : ℕ) (t : T) → k < length stamps → IsBefore (k + 1) (shown (slice_index_or stamps k t)) day

-- the history is legal and every row right under the set in force; and unless the ledger is broken, each entry is what its
-- slot shows, and of each unit it is known since which entry it has its nets
pub record IsLedger {T : Type 0} (shown : T → Day) (stamps : List T) (places : List ℕ) (room : ℕ) (broken : Bool) (day : Day) : Type 0 where
  pub stands : Stands day.sets day.book
  pub roomy : 1024 ≤ room
  pub stamped : broken ≡ false → AreStamped shown stamps day
  pub places_are : broken ≡ false → AreUnchangedSince shown stamps places day

-- the answers without a place: no memory, a full history, or a service that is closed
abbrev pub HasNoPlace : Reply → Type 0
HasNoPlace reply = (reply ≡ Refused Memory) ⊎ ((reply ≡ Refused Full) ⊎ (reply ≡ Refused Broken))

-- an answer with a place has it at the end of what the pass has then seen; one without leaves the pass as it was
abbrev pub PassAnswersAt : PassView → Request → Option ℕ → Reply → PassView → Type 0
PassAnswersAt old request (Some place) reply new = IsCalled old request place reply new
PassAnswersAt old request None reply new = (new ≡ old) × HasNoPlace reply

abbrev pub PassAnswers : PassView → Request → Answer → PassView → Type 0
PassAnswers old request answer new = PassAnswersAt old request answer.place answer.reply new

-- a command that got a place, with what its stamp shows; any other leaves the pass as it was
abbrev pub Enters : {T J : Type 0} → (T → Day) → Day → PassView → Command → Plan → Entered T J → PassView → Type 0
Enters shown day old command plan (Placed place reply stamp) new =
    IsCalled old (Do command) place reply new × Leads shown day plan reply stamp.1
Enters shown day old command plan (Unplaced why) new = (new ≡ old) × HasNoPlace (Refused why)

-- what a call is answered
abbrev pub entered_answer : {T J : Type 0} → Entered T J → Answer
entered_answer (Placed place reply stamp) = record { place = Some place; reply = reply }
entered_answer (Unplaced why) = record { place = None; reply = Refused why }
