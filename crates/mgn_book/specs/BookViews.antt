-- The state of the book with the history that made it. The sets are those of a shelf, by version.
use Rattle.std.specs.Prelude.{ℕ, ◌≡◌, ◌+◌, ◌-◌, ◌<◌, ◌≤◌, ◌==◌, if◌then◌else◌, List, [], ◌∷◌, ◌++◌, length, slice_index_or, Option, None, Some}
use Rattle.std.specs.List.{slice_get}
use Rattle.std.specs.Option.{option_flatten, option_map}
use Rattle.mgn_params.specs.Shelves.{set_at}
use Rattle.mgn_params.specs.Tables.{Tables}
use Rattle.mgn_machine.specs.declared.command.Command.{Command}
use Rattle.mgn_machine.specs.declared.entry.Entry.{Entry}
use Rattle.mgn_machine.specs.declared.reply.Reply.TheVariants.{Done as Settled, Figures, NewSet, Statement, Totals, Refused}
use Rattle.mgn_machine.specs.declared.reply.Reply.{Reply}
use Rattle.mgn_machine.specs.declared.request.Recorded.{Recorded}
use Rattle.mgn_machine.specs.declared.request.Recorded.TheVariants.{Asked, InForce, SetRefused}
use Rattle.mgn_machine.specs.declared.request.Request.{Request}
use Rattle.mgn_machine.specs.declared.request.Request.TheVariants.{Do, Switch}
use Rattle.mgn_machine.specs.State.{start}
use Rattle.mgn_machine.specs.Step.{step}
use Rattle.mgn_machine.specs.History.{calls, entry, recorded, replay, Legal}
use Rattle.mgn_unit.specs.declared.row.Row.{Row}
use Rattle.mgn_plan.specs.declared.plans.Plan.{Plan}
use Rattle.mgn_plan.specs.Plans.{LeavesNets}
use Rattle.mgn_register.specs.BookStates.{IsKept}
pub use Rattle.mgn_register.specs.BookStates.{BookView}
use Rattle.mgn_book.specs.declared.book.Outcome.{Outcome}
use Rattle.mgn_book.specs.declared.book.Outcome.TheVariants.{Done, Full, Memory}

-- before the first command
abbrev pub opening : BookView
opening = record { book = record { state = start; rows = [] }; history = [] }

-- the history is legal and has at most 1,000,000 entries, the state is its replay, the version in force is that of the
-- last set, and the rows are those of the state under that set
pub record Stands (sets : List Tables) (d : BookView) : Type 0 where
  pub legal : Legal sets d.history
  pub state : d.book.state ≡ replay sets d.history
  pub shown : length sets ≡ d.book.state.version + 1
  pub kept : IsKept (set_at sets d.book.state.version) d.book
  pub few : length d.history ≤ 1000000

-- what a commit does under the sets as they are then: one step of the machine and its entry, or nothing
abbrev pub Committed : List Tables → BookView → ℕ → ℕ → Request → Outcome → BookView → Type 0
Committed sets old session number request (Done place reply) new =
    (place ≡ length new.history)
    × ((new.book.state, reply) ≡ step sets old.book.state request)
    × (new.history ≡ old.history ++ entry session number (recorded request reply) reply ∷ [])
Committed sets old session number request Full new = (new ≡ old) × (length old.history ≡ 1000000)
Committed sets old session number request Memory new = (new ≡ old) × (length old.history < 1000000)

-- what the commit of a command leaves of the nets of units
abbrev pub Leaves : Tables → Plan → List Row → Outcome → List Row → Type 0
Leaves set plan old (Done place reply) new = LeavesNets set plan reply old new
Leaves set plan old Full new = new ≡ old
Leaves set plan old Memory new = new ≡ old

-- the sets after a request that was answered: one that came into force is the last of them
abbrev pub sets_after : List Tables → Request → Reply → List Tables
sets_after sets (Do command) reply = sets
sets_after sets (Switch set) (NewSet told) = sets ++ set ∷ []
sets_after sets (Switch set) (Refused why) = sets
sets_after sets (Switch set) Settled = sets
sets_after sets (Switch set) (Figures figures) = sets
sets_after sets (Switch set) (Totals totals) = sets
sets_after sets (Switch set) (Statement told) = sets

-- a list, as of sets or of entries, begins with another
abbrev pub Begins : {X : Type 0} → List X → List X → Type 0
Begins {X = X} first all = (more : List X) × (all ≡ first ++ more)

-- what a commit does to the sets of the shelf
abbrev pub Shelves : List Tables → Request → Outcome → List Tables → Type 0
Shelves old request (Done place reply) new = new ≡ sets_after old request reply
Shelves old request Full new = new ≡ old
Shelves old request Memory new = new ≡ old

-- what a reply to a switch leaves of the rows: as many under the set that came into force, else the same ones
abbrev pub KeepsRows : List Row → Reply → List Row → Type 0
KeepsRows old (NewSet told) new = length new ≡ length old
KeepsRows old (Refused why) new = new ≡ old
KeepsRows old Settled new = new ≡ old
KeepsRows old (Figures figures) new = new ≡ old
KeepsRows old (Totals totals) new = new ≡ old
KeepsRows old (Statement told) new = new ≡ old

-- what the commit of a switch leaves of the rows
abbrev pub LeavesRows : List Row → Outcome → List Row → Type 0
LeavesRows old (Done place reply) new = KeepsRows old reply new
LeavesRows old Full new = new ≡ old
LeavesRows old Memory new = new ≡ old

-- the entry at a place, which counts from 1; none where there is no such entry
abbrev pub entry_at : List Entry → ℕ → Option Entry
entry_at history place = if place == 0 then None else slice_get history (place - 1)

-- its reply
abbrev pub reply_at : List Entry → ℕ → Option Reply
reply_at history place = option_map (λ (e : Entry). e.reply) (entry_at history place)

-- the number of its session
abbrev pub session_at : List Entry → ℕ → Option ℕ
session_at history place = option_map (λ (e : Entry). e.session) (entry_at history place)

-- what is recorded as a command, none where it is a switch
abbrev pub command_of : Recorded → Option Command
command_of (Asked command) = Some command
command_of (InForce version) = None
command_of (SetRefused set) = None

-- its command, none also where it is of a switch
abbrev pub command_at : List Entry → ℕ → Option Command
command_at history place = option_flatten (option_map (λ (e : Entry). command_of e.request) (entry_at history place))

-- Inside the book.

-- the counts are those of the sessions' entries
abbrev pub AreCounts : List ℕ → List Entry → Type 0
AreCounts counts history = (s : ℕ) → s < 16 → slice_index_or counts s 0 ≡ calls (s + 1) history

-- there are sets under which the day stands, and the counts are those of its history
pub record IsBook (d : BookView) (counts : List ℕ) : Type 0 where
  pub sets : List Tables
  pub stands : Stands sets d
  pub long : length counts ≡ 16
  pub counts_are : AreCounts counts d.history
