-- What a commit by desks does (own profile).
use Rattle.std.specs.Prelude.{ℕ, ◌≡◌, ◌<◌, Bool, true, false, List, length}
use Rattle.mgn_params.specs.Shelves.{set_at}
use Rattle.mgn_params.specs.Tables.{Tables}
use Rattle.mgn_desk.specs.Desks.{DeskRows}
use Rattle.mgn_machine.specs.declared.command.Command.{Command}
use Rattle.mgn_machine.specs.declared.request.Request.TheVariants.{Do}
use Rattle.mgn_unit.specs.declared.row.Row.{Row}
use Rattle.mgn_plan.specs.declared.plans.Plan.{Plan}
use Rattle.mgn_plan.specs.Plans.{LeavesNets, plan_of}
use Rattle.mgn_pricing.specs.Given.{fit_plan, is_one_older}
use Rattle.mgn_book.specs.BookViews.{BookView, Committed}
use Rattle.mgn_book.specs.declared.book.Outcome.TheVariants.{Done as Settled}
use Rattle.mgn_book.specs.declared.by_desks.Decision.{Decision}
use Rattle.mgn_book.specs.declared.by_desks.Decision.TheVariants.{Apart, Done, Full, Memory, Stale}

-- the desks have what the plan of a command leaves, as it is now
abbrev pub fit_now : List Tables → BookView → Command → List DeskRows → Bool
fit_now sets d command desks =
    let state = d.book.state in
    let set = set_at sets state.version in
    fit_plan set state.version d.book.rows desks (plan_of set state command)

-- nothing has changed, and there is a place for an entry
abbrev pub Stays : BookView → BookView → Type 0
Stays old new = (new ≡ old) × (length old.history < 1000000)

-- where the history is full, or else a desk is of an older version, or else the plan's desks do not fit, nothing is done;
-- else the command is
abbrev pub CommittedBy : List Tables → BookView → ℕ → ℕ → Command → List DeskRows → Decision → BookView → Type 0
CommittedBy sets old session number command desks Full new = (new ≡ old) × (length old.history ≡ 1000000)
CommittedBy sets old session number command desks (Stale version) new =
    Stays old new × (is_one_older old.book.state.version desks ≡ true) × (version ≡ old.book.state.version)
CommittedBy sets old session number command desks Apart new =
    Stays old new × (is_one_older old.book.state.version desks ≡ false) × (fit_now sets old command desks ≡ false)
CommittedBy sets old session number command desks Memory new =
    Stays old new × (is_one_older old.book.state.version desks ≡ false) × (fit_now sets old command desks ≡ true)
CommittedBy sets old session number command desks (Done place reply) new =
    (is_one_older old.book.state.version desks ≡ false)
    × (fit_now sets old command desks ≡ true)
    × Committed sets old session number (Do command) (Settled place reply) new

-- what it leaves of the nets of units
abbrev pub LeavesBy : Tables → Plan → List Row → Decision → List Row → Type 0
LeavesBy set plan old (Done place reply) new = LeavesNets set plan reply old new
LeavesBy set plan old (Stale version) new = new ≡ old
LeavesBy set plan old Apart new = new ≡ old
LeavesBy set plan old Full new = new ≡ old
LeavesBy set plan old Memory new = new ≡ old
