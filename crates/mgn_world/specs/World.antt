-- The world of sessions: its state, and what each step does to it (own profile). Rows and figures are functions of the
-- state, so it has none.
use Rattle.std.specs.Prelude.{ℕ, zero, suc, ◌+◌, ◌-◌, ◌==◌, ◌&&◌, ◌||◌, Bool, true, false, not, Option, None, Some, List, [], ◌∷◌, ◌++◌, length, map, replicate, slice_index_or, slice_set, if◌then◌else◌, nat_le, nat_lt, Result, Ok, Err}
use Rattle.std.specs.List.{range_with_len}
use Rattle.mgn_params.specs.Shelves.{set_at}
use Rattle.mgn_params.specs.Tables.{Tables}
use Rattle.mgn_nets.specs.Portfolios.{UnitNets}
use Rattle.mgn_desk.specs.Desks.{MarkedNets, moved_marked}
use Rattle.mgn_desk.specs.Portfolios.{opposite}
use Rattle.mgn_machine.specs.declared.command.Command.{Command}
use Rattle.mgn_machine.specs.declared.command.Command.TheVariants as asked
use Rattle.mgn_machine.specs.declared.entry.Entry.{Entry}
use Rattle.mgn_machine.specs.declared.reply.Refusal.{Refusal}
use Rattle.mgn_machine.specs.declared.reply.Reply.{Reply}
use Rattle.mgn_machine.specs.declared.reply.Reply.TheVariants.{Done}
use Rattle.mgn_machine.specs.declared.request.Request.{Request}
use Rattle.mgn_machine.specs.declared.request.Request.TheVariants.{Do, Switch}
use Rattle.mgn_machine.specs.History.{calls, entry, recorded}
use Rattle.mgn_machine.specs.Refusals.{place_of}
use Rattle.mgn_machine.specs.State.{AccountState, State, account_at, start}
use Rattle.mgn_machine.specs.Step.{step}
use Rattle.mgn_unit.specs.NewSets.{is_unit_covered}
use Rattle.mgn_unit.specs.Rows.{nets_in, row_of}
use Rattle.mgn_plan.specs.declared.plans.Plan.{Plan}
use Rattle.mgn_plan.specs.declared.plans.Plan.TheVariants.{Nothing, One, Two}
use Rattle.mgn_plan.specs.declared.plans.UnitChange.{UnitChange}
use Rattle.mgn_plan.specs.Plans.{plan_of, planned_nets}
use Rattle.mgn_pricing.specs.Desks.{moves_of}
use Rattle.mgn_pricing.specs.Given.{same_four}
use Rattle.mgn_book.specs.BookViews.{sets_after}
use Rattle.mgn_world.specs.declared.phases.Call.{Call}
use Rattle.mgn_world.specs.declared.phases.Deed.{Deed}
use Rattle.mgn_world.specs.declared.phases.Deed.TheVariants.{Begin, Look, Mark, Apply, Commit, Back, End, Gather, Prepare}
use Rattle.mgn_world.specs.declared.phases.Phase.{Phase}
use Rattle.mgn_world.specs.declared.phases.Phase.TheVariants.{Idle, Held, Looked, Applied, Failed, Ended, Gathered}
use Rattle.mgn_world.specs.declared.phases.Step.{Step}
use Rattle.mgn_world.specs.Phases.{Gathering, View}
use Rattle.mgn_world.specs.declared.phases.Seen.{Seen}

-- The sets by version, the machine's state and history; by unit a desk, which is empty or has nets under the set of a
-- version, and the place of the session that holds it; and the phases of the 16 sessions. A unit has one holder at
-- most.
pub record World : Type 0 where
  pub sets : List Tables
  pub state : State
  pub history : List Entry
  pub desks : List (Option MarkedNets)
  pub locks : List (Option ℕ)
  pub phases : List Phase

-- before the first step: no unit, and 16 idle sessions
abbrev pub opening : Tables → World
opening set = record {
  sets = set ∷ [];
  state = start;
  history = [];
  desks = [];
  locks = [];
  phases = replicate 16 Idle;
}

abbrev pub desk_at : World → ℕ → Option MarkedNets
desk_at w u = slice_index_or w.desks u None

abbrev pub lock_at : World → ℕ → Option ℕ
lock_at w u = slice_index_or w.locks u None

abbrev pub phase_at : World → ℕ → Phase
phase_at w p = slice_index_or w.phases p Idle

abbrev pub with_phase : World → ℕ → Phase → World
with_phase w p phase = record w { phases = slice_set w.phases p phase }

-- the set in force
abbrev pub in_force : World → Tables
in_force w = set_at w.sets w.state.version

-- the nets of a unit's portfolios under a set, worked out from lots and holds alone
abbrev pub unit_nets : Tables → List AccountState → ℕ → UnitNets
unit_nets set accounts u = nets_in (row_of set accounts u)

-- The units of a command.

abbrev pub unit_found : State → Result ℕ Refusal → List ℕ
unit_found s (Ok k) = (account_at s.accounts k).unit ∷ []
unit_found s (Err why) = []

abbrev pub units_found : State → Result ℕ Refusal → Result ℕ Refusal → List ℕ
units_found s (Ok giver) (Ok taker) = (account_at s.accounts giver).unit ∷ (account_at s.accounts taker).unit ∷ []
units_found s (Ok giver) (Err why) = []
units_found s (Err why) taker = []

-- none, where it needs none or an account is not there
abbrev pub units_of : State → Command → List ℕ
units_of s (asked.Trade t) = unit_found s (place_of s t.account)
units_of s (asked.Bust account lot) = unit_found s (place_of s account)
units_of s (asked.Hold h) = unit_found s (place_of s h.account)
units_of s (asked.Fill f) = unit_found s (place_of s f.account)
units_of s (asked.Release account order) = unit_found s (place_of s account)
units_of s (asked.Transfer m) = units_found s (place_of s m.from) (place_of s m.to)
units_of s (asked.NewOrigin name mode) = []
units_of s (asked.NewAccount account origin) = []
units_of s (asked.Post account class units) = []
units_of s (asked.Draw account class units) = []
units_of s (asked.Ask account) = []
units_of s (asked.Total origin) = []
units_of s (asked.Statement account) = []
units_of s asked.EndDay = []

-- Who holds a unit.

abbrev pub is_free : Option ℕ → Bool
is_free None = true
is_free (Some holder) = false

abbrev pub are_free : List (Option ℕ) → List ℕ → Bool
are_free locks [] = true
are_free locks (u ∷ us) = is_free (slice_index_or locks u None) && are_free locks us

abbrev pub taken : ℕ → List ℕ → List (Option ℕ) → List (Option ℕ)
taken p [] locks = locks
taken p (u ∷ us) locks = taken p us (slice_set locks u (Some p))

abbrev pub freed : ℕ → Option ℕ → Option ℕ
freed p None = None
freed p (Some holder) = if holder == p then None else Some holder

-- all units of a session given back, and its call over
abbrev pub finished : World → ℕ → World
finished w p = record w { locks = map (freed p) w.locks; phases = slice_set w.phases p Idle }

-- Commits.

-- the history has 1,000,000 entries
abbrev pub is_full : World → Bool
is_full w = nat_le 1000000 (length w.history)

-- none for each unit that was made
abbrev pub lengthened : {X : Type 0} → ℕ → List (Option X) → List (Option X)
lengthened units xs = xs ++ replicate (units - length xs) None

-- one step of the machine and its entry, under the session's number and the entry's number among its own
abbrev pub stepped : World → ℕ → Request → State × Reply → World
stepped w p request after = record {
  sets = sets_after w.sets request after.1;
  state = after.0;
  history = w.history ++ entry (p + 1) (calls (p + 1) w.history + 1) (recorded request after.1) after.1 ∷ [];
  desks = lengthened after.0.units w.desks;
  locks = lengthened after.0.units w.locks;
  phases = w.phases;
}

-- the same; a full history takes nothing
abbrev pub entered : World → ℕ → Request → World
entered w p request = if is_full w then w else stepped w p request (step w.sets w.state request)

-- Begin: the units become the session's own. Where there are none the command commits, and the call is over.
abbrev pub begin_on : World → ℕ → Command → List ℕ → World
begin_on w p c [] = entered w p (Do c)
begin_on w p c (u ∷ us) =
    if are_free w.locks (u ∷ us) then
    record w {
      locks = taken p (u ∷ us) w.locks;
      phases = slice_set w.phases p (Held record { command = c; began = w.state.version; looks = 0 });
    }
    else w

abbrev pub begins : World → ℕ → Command → Phase → World
begins w p c Idle = begin_on w p c (units_of w.state c)
begins w p c _ = w

-- Look: takes version, plan and nets. Without a plan the command commits, and the call is over.
abbrev pub in_order : ℕ → ℕ → List ℕ
in_order u v = if nat_lt v u then v ∷ u ∷ [] else u ∷ v ∷ []

abbrev pub plan_units : Plan → List ℕ
plan_units Nothing = []
plan_units (One u) = u.unit ∷ []
plan_units (Two u v) = in_order u.unit v.unit

abbrev pub seen_at : Tables → List AccountState → ℕ → Seen
seen_at set accounts u = record { unit = u; nets = unit_nets set accounts u }

abbrev pub looked_at : World → Call → Plan → Phase
looked_at w k plan = Looked record { command = k.command; began = k.began; looks = k.looks + 1 } record {
  version = w.state.version;
  plan = plan;
  seen = map (seen_at (in_force w) w.state.accounts) (plan_units plan);
}

abbrev pub look_on : World → ℕ → Call → Plan → World
look_on w p k Nothing = finished (entered w p (Do k.command)) p
look_on w p k (One u) = with_phase w p (looked_at w k (One u))
look_on w p k (Two u v) = with_phase w p (looked_at w k (Two u v))

abbrev pub looks : World → ℕ → Phase → World
looks w p (Held k) = look_on w p k (plan_of (in_force w) w.state k.command)
looks w p _ = w

-- Mark: the first desk of the plan that is not of the looked version is set to it, with the looked nets.
abbrev pub is_of : ℕ → Option MarkedNets → Bool
is_of version None = false
is_of version (Some m) = m.version == version

abbrev pub mark_first : ℕ → List Seen → List (Option MarkedNets) → List (Option MarkedNets)
mark_first version [] desks = desks
mark_first version (x ∷ xs) desks =
    if is_of version (slice_index_or desks x.unit None) then mark_first version xs desks
    else slice_set desks x.unit (Some record { version = version; nets = x.nets })

abbrev pub marks : World → Phase → World
marks w (Looked k l) = record w { desks = mark_first l.version l.seen w.desks }
marks w _ = w

-- Apply: where all desks of the plan are of the looked version, their nets become those after it.
abbrev pub are_of : ℕ → List (Option MarkedNets) → List Seen → Bool
are_of version desks [] = true
are_of version desks (x ∷ xs) = is_of version (slice_index_or desks x.unit None) && are_of version desks xs

abbrev pub desks_with : UnitChange → List (Option MarkedNets) → List (Option MarkedNets)
desks_with u desks = slice_set desks u.unit (moved_marked (moves_of u.change) (slice_index_or desks u.unit None))

abbrev pub planned_desks : Plan → List (Option MarkedNets) → List (Option MarkedNets)
planned_desks Nothing desks = desks
planned_desks (One u) desks = desks_with u desks
planned_desks (Two u v) desks = desks_with v (desks_with u desks)

abbrev pub applies : World → ℕ → Phase → World
applies w p (Looked k l) =
    if are_of l.version w.desks l.seen then
    record w { desks = planned_desks l.plan w.desks; phases = slice_set w.phases p (Applied k l) }
    else w
applies w p _ = w

-- Commit.

abbrev pub is_stale : ℕ → Option MarkedNets → Bool
is_stale version None = false
is_stale version (Some m) = nat_lt m.version version

-- a desk of the plan is of an older version than the one in force
abbrev pub are_stale : ℕ → List (Option MarkedNets) → List Seen → Bool
are_stale version desks [] = false
are_stale version desks (x ∷ xs) = is_stale version (slice_index_or desks x.unit None) || are_stale version desks xs

-- the nets of a unit after a plan
abbrev pub planned : Plan → Tables → List AccountState → ℕ → UnitNets
planned plan set accounts u = planned_nets plan u (nets_in (row_of set accounts u))

-- a desk is of the version in force, and has the nets of the unit after the plan
abbrev pub is_fit : World → Plan → ℕ → Option MarkedNets → Bool
is_fit w plan u None = false
is_fit w plan u (Some m) =
    (m.version == w.state.version) && same_four m.nets (planned plan (in_force w) w.state.accounts u)

abbrev pub are_fit : World → Plan → List ℕ → Bool
are_fit w plan [] = true
are_fit w plan (u ∷ us) = is_fit w plan u (desk_at w u) && are_fit w plan us

-- there is a plan at this moment that a desk of its units does not fit
abbrev pub is_apart : World → Plan → Bool
is_apart w plan = not (are_fit w plan (plan_units plan))

abbrev pub is_done : Reply → Bool
is_done Done = true
is_done _ = false

abbrev pub placed : World → ℕ → Call → View → State × Reply → World
placed w p k l after =
    with_phase (stepped w p (Do k.command) after) p (if is_done after.1 then Ended k else Failed k l false)

-- A switch always ends its call.
abbrev pub commits : World → ℕ → Phase → World
commits w p (Applied k l) =
    if is_full w then with_phase w p (Failed k l false) else
    if are_stale w.state.version w.desks l.seen then with_phase w p (Failed k l true) else
    if is_apart w (plan_of (in_force w) w.state k.command) then with_phase w p (Failed k l false) else
    placed w p k l (step w.sets w.state (Do k.command))
commits w p (Gathered g) = with_phase (entered w p (Switch g.set)) p Idle
commits w p _ = w

-- Back: the plan is taken back from its desks.
abbrev pub desks_without : UnitChange → List (Option MarkedNets) → List (Option MarkedNets)
desks_without u desks =
    slice_set desks u.unit (moved_marked (opposite (moves_of u.change)) (slice_index_or desks u.unit None))

abbrev pub unplanned_desks : Plan → List (Option MarkedNets) → List (Option MarkedNets)
unplanned_desks Nothing desks = desks
unplanned_desks (One u) desks = desks_without u desks
unplanned_desks (Two u v) desks = desks_without u (desks_without v desks)

abbrev pub backs : World → ℕ → Phase → World
backs w p (Failed k l again) =
    record w { desks = unplanned_desks l.plan w.desks; phases = slice_set w.phases p (if again then Held k else Ended k) }
backs w p _ = w

-- End: the units are free, the session idle.
abbrev pub ends : World → ℕ → Phase → World
ends w p (Ended k) = finished w p
ends w p _ = w

-- Gather begins a switch with a copy of all nets. Prepare works one unit out, if the set has each contract in which its
-- net is not 0.
abbrev pub gathers : World → ℕ → Tables → Phase → World
gathers w p set Idle = with_phase w p (Gathered record {
  set = set;
  version = w.state.version;
  nets = map (unit_nets (in_force w) w.state.accounts) (range_with_len 0 w.state.units);
  prepared = replicate w.state.units false;
})
gathers w p set _ = w

abbrev pub no_nets : UnitNets
no_nets = record { lots = []; buys = []; sales = []; all = [] }

-- what is gathered, once a unit is worked out
abbrev pub prepared_more : Tables → ℕ → Gathering → Gathering
prepared_more old u g =
    if nat_lt u (length g.nets) && is_unit_covered old g.set (slice_index_or g.nets u no_nets) then
    record g { prepared = slice_set g.prepared u true }
    else g

abbrev pub prepares : World → ℕ → ℕ → Phase → World
prepares w p u (Gathered g) = with_phase w p (Gathered (prepared_more (set_at w.sets g.version) u g))
prepares w p u _ = w

-- A step of the session at a place. Where it is not the next one of the session's call, nothing changes.
abbrev pub does : World → ℕ → Deed → World
does w p (Begin c) = begins w p c (phase_at w p)
does w p Look = looks w p (phase_at w p)
does w p Mark = marks w (phase_at w p)
does w p Apply = applies w p (phase_at w p)
does w p Commit = commits w p (phase_at w p)
does w p Back = backs w p (phase_at w p)
does w p End = ends w p (phase_at w p)
does w p (Gather set) = gathers w p set (phase_at w p)
does w p (Prepare u) = prepares w p u (phase_at w p)

abbrev pub does_as : World → ℕ → Deed → World
does_as w zero deed = w
does_as w (suc p) deed = if nat_lt p (length w.phases) then does w p deed else w

abbrev pub next : World → Step → World
next w e = does_as w e.session e.deed

-- a whole list of steps
abbrev pub run : World → List Step → World
run w [] = w
run w (e ∷ es) = run (next w e) es
