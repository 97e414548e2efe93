-- Histories: what was committed, in order, and when that is legal (own profile). The sets are those of a shelf, by
-- version.
use Rattle.std.specs.Prelude.{ℕ, suc, ◌+◌, ◌<◌, ◌≡◌, ◌==◌, if◌then◌else◌, List, [], ◌∷◌, ◌++◌, length}
use Rattle.mgn_params.specs.Shelves.{set_at}
use Rattle.mgn_params.specs.Tables.{Tables}
use Rattle.mgn_machine.specs.declared.entry.Entry.{Entry}
use Rattle.mgn_machine.specs.declared.entry.Item.{Item}
use Rattle.mgn_machine.specs.declared.reply.Reply.{Reply}
use Rattle.mgn_machine.specs.declared.reply.Reply.TheVariants.{NewSet}
use Rattle.mgn_machine.specs.declared.request.Recorded.{Recorded}
use Rattle.mgn_machine.specs.declared.request.Recorded.TheVariants.{Asked, InForce, SetRefused}
use Rattle.mgn_machine.specs.declared.request.Request.{Request}
use Rattle.mgn_machine.specs.declared.request.Request.TheVariants.{Do, Switch}
use Rattle.mgn_machine.specs.State.{State, start}
use Rattle.mgn_machine.specs.Step.{step}

-- how a request is kept that was answered: a switch by the version that it was told, or, where it was refused, with its
-- set
abbrev pub recorded : Request → Reply → Recorded
recorded (Do command) reply = Asked command
recorded (Switch set) (NewSet told) = InForce told.version
recorded (Switch set) _ = SetRefused set

-- the request that is kept: a version stands for the set that it shows
abbrev pub request_of : List Tables → Recorded → Request
request_of sets (Asked command) = Do command
request_of sets (InForce version) = Switch (set_at sets version)
request_of sets (SetRefused set) = Switch set

abbrev pub entry : ℕ → ℕ → Recorded → Reply → Entry
entry session number request reply = record { session = session; number = number; request = request; reply = reply }

abbrev pub item : ℕ → Recorded → Reply → Item
item place request reply = record { place = place; request = request; reply = reply }

-- one step further, by an entry
abbrev pub next : List Tables → State → Entry → State × Reply
next sets s e = step sets s (request_of sets e.request)

abbrev pub replay_from : List Tables → State → List Entry → State
replay_from sets s [] = s
replay_from sets s (e ∷ es) = replay_from sets (next sets s e).0 es

-- the state after a history
abbrev pub replay : List Tables → List Entry → State
replay sets history = replay_from sets start history

-- how many entries a session has
abbrev pub calls : ℕ → List Entry → ℕ
calls session [] = 0
calls session (e ∷ es) = if e.session == session then suc (calls session es) else calls session es

-- an entry may come next: its reply is the machine's, its request is kept as such a reply wants, the version in force
-- is that of a set before it and after it, and its number is the next one of its session
pub record Follows (sets : List Tables) (history : List Entry) (e : Entry) : Type 0 where
  pub shown : (replay sets history).version < length sets
  pub after : (next sets (replay sets history) e).0.version < length sets
  pub request : e.request ≡ recorded (request_of sets e.request) e.reply
  pub reply : e.reply ≡ (next sets (replay sets history) e).1
  pub number : e.number ≡ calls e.session history + 1

abbrev pub LegalFrom : List Tables → List Entry → List Entry → Type 0
LegalFrom sets before [] = Unit {0}
LegalFrom sets before (e ∷ es) = Follows sets before e × LegalFrom sets (before ++ e ∷ []) es

-- each entry of the history follows those before it
abbrev pub Legal : List Tables → List Entry → Type 0
Legal sets history = LegalFrom sets [] history

abbrev pub items_from : ℕ → ℕ → List Entry → List Item
items_from session place [] = []
items_from session place (e ∷ es) =
    if e.session == session then item place e.request e.reply ∷ items_from session (place + 1) es
    else items_from session (place + 1) es

-- what a session asked and was answered, with the places in the history
abbrev pub items_of : ℕ → List Entry → List Item
items_of session history = items_from session 1 history
