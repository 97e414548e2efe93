-- What a command changes in the rows of margin units, where nothing but want of room refuses it, and what the units then
-- require (own profile).
use Rattle.std.specs.Prelude.{ℕ, ◌≡◌, ◌≢◌, ◌<◌, ◌≤◌, neg_ℤ, ◌==◌, if◌then◌else◌, IfSome, IsSome, None, List, length, slice_index_or, Result, Ok, Err}
use Rattle.mgn_params.specs.Tables.{Tables}
use Rattle.mgn_nets.specs.Portfolios.{UnitNets}
use Rattle.mgn_lots.specs.declared.lot.Lot.{Lot}
use Rattle.mgn_lots.specs.Lots.{lot_at}
use Rattle.mgn_holds.specs.declared.held.Held.{Held}
use Rattle.mgn_holds.specs.Holds.{hold_at}
use Rattle.mgn_machine.specs.declared.command.Command.{Command}
use Rattle.mgn_machine.specs.declared.command.Command.TheVariants as asked
use Rattle.mgn_machine.specs.declared.command.Fill.{Fill}
use Rattle.mgn_machine.specs.declared.command.Hold.{Hold}
use Rattle.mgn_machine.specs.declared.command.Trade.{Trade}
use Rattle.mgn_machine.specs.declared.command.Transfer.{Transfer}
use Rattle.mgn_machine.specs.declared.reply.Refusal.{Refusal}
use Rattle.mgn_machine.specs.declared.reply.Reply.{Reply}
use Rattle.mgn_machine.specs.declared.reply.Reply.TheVariants.{Done, Figures, NewSet, Refused, Statement, Totals}
use Rattle.mgn_machine.specs.Holding.{fill_places, hold_places, release_places}
use Rattle.mgn_machine.specs.Refusals.{bust_places, contract_of, trade_places}
use Rattle.mgn_machine.specs.State.{State, account_at}
use Rattle.mgn_machine.specs.Transfers.{move_places}
use Rattle.mgn_unit.specs.Changes.{bust_change, fill_change, hold_change, lot_change, moved_change, release_change}
use Rattle.mgn_unit.specs.declared.change.Change.{Change}
use Rattle.mgn_unit.specs.declared.row.Row.{Row}
use Rattle.mgn_unit.specs.Rows.{IsChange, IsRoomy, IsRow, Prices, more_at, nets_in, no_row}
use Rattle.mgn_plan.specs.declared.plans.Known.{Known}
use Rattle.mgn_plan.specs.declared.plans.Plan.{Plan}
use Rattle.mgn_plan.specs.declared.plans.Plan.TheVariants.{Nothing, One, Two}
use Rattle.mgn_plan.specs.declared.plans.UnitChange.{UnitChange}

-- the row of a unit
abbrev pub row_at : Tables → List Row → ℕ → Row
row_at set rows u = slice_index_or rows u (no_row set)

-- a change in the row of the unit of the account at a place
abbrev pub in_unit_of : State → ℕ → Change → UnitChange
in_unit_of s k change = record { account = k; unit = (account_at s.accounts k).unit; change = change }

abbrev pub trade_plan : State → Trade → Result (ℕ × ℕ) Refusal → Plan
trade_plan s t (Ok at) = One (in_unit_of s at.0 (lot_change at.1 t.quantity t.premium))
trade_plan s t (Err why) = Nothing

abbrev pub bust_plan_at : State → ℕ → Lot → Result ℕ Refusal → Plan
bust_plan_at s k lot (Ok i) = One (in_unit_of s k (bust_change i lot))
bust_plan_at s k lot (Err why) = Nothing

abbrev pub bust_plan : Tables → State → Result (ℕ × ℕ) Refusal → Plan
bust_plan set s (Ok at) =
    let lot = lot_at (account_at s.accounts at.0).lots at.1 in
    bust_plan_at s at.0 lot (contract_of set lot.contract)
bust_plan set s (Err why) = Nothing

abbrev pub hold_plan : State → Hold → Result (ℕ × ℕ) Refusal → Plan
hold_plan s h (Ok at) = One (in_unit_of s at.0 (hold_change at.1 h.quantity h.limit))
hold_plan s h (Err why) = Nothing

abbrev pub fill_plan_at : State → ℕ → Held → Fill → Result ℕ Refusal → Plan
fill_plan_at s k held f (Ok i) = One (in_unit_of s k (fill_change i f.quantity held.limit f.premium))
fill_plan_at s k held f (Err why) = Nothing

abbrev pub fill_plan : Tables → State → Fill → Result (ℕ × ℕ) Refusal → Plan
fill_plan set s f (Ok at) =
    let held = hold_at (account_at s.accounts at.0).holds at.1 in
    fill_plan_at s at.0 held f (contract_of set held.contract)
fill_plan set s f (Err why) = Nothing

abbrev pub release_plan_at : State → ℕ → Held → Result ℕ Refusal → Plan
release_plan_at s k held (Ok i) = One (in_unit_of s k (release_change i held.quantity held.limit))
release_plan_at s k held (Err why) = Nothing

abbrev pub release_plan : Tables → State → Result (ℕ × ℕ) Refusal → Plan
release_plan set s (Ok at) =
    let held = hold_at (account_at s.accounts at.0).holds at.1 in
    release_plan_at s at.0 held (contract_of set held.contract)
release_plan set s (Err why) = Nothing

-- within one unit no portfolio changes
abbrev pub both_plan : UnitChange → UnitChange → Plan
both_plan giver taker = if giver.unit == taker.unit then Nothing else Two giver taker

abbrev pub move_plan : State → Transfer → Result (ℕ × ℕ × ℕ) Refusal → Plan
move_plan s m (Ok (giver, taker, i)) =
    both_plan (in_unit_of s giver (moved_change i (neg_ℤ m.quantity))) (in_unit_of s taker (moved_change i m.quantity))
move_plan s m (Err why) = Nothing

-- what a command changes
abbrev pub plan_of : Tables → State → Command → Plan
plan_of set s (asked.Trade t) = trade_plan s t (trade_places set s t)
plan_of set s (asked.Bust account lot) = bust_plan set s (bust_places s account lot)
plan_of set s (asked.Hold h) = hold_plan s h (hold_places set s h)
plan_of set s (asked.Fill f) = fill_plan set s f (fill_places set s f)
plan_of set s (asked.Release account order) = release_plan set s (release_places s account order)
plan_of set s (asked.Transfer m) = move_plan s m (move_places set s m)
plan_of set s (asked.NewOrigin name mode) = Nothing
plan_of set s (asked.NewAccount account origin) = Nothing
plan_of set s (asked.Post account class units) = Nothing
plan_of set s (asked.Draw account class units) = Nothing
plan_of set s (asked.Ask account) = Nothing
plan_of set s (asked.Total origin) = Nothing
plan_of set s (asked.Statement account) = Nothing
plan_of set s asked.EndDay = Nothing

abbrev pub nothing_known : Known
nothing_known = record { first = None; second = None }

-- what is known of the units of a plan is what they require after it
abbrev pub Foresees : Tables → List Row → Plan → Known → Type 0
Foresees set rows Nothing known = Unit {0}
Foresees set rows (One u) known = IfSome known.first (Prices set u.change (row_at set rows u.unit))
Foresees set rows (Two u v) known =
    IfSome known.first (Prices set u.change (row_at set rows u.unit))
    × IfSome known.second (Prices set v.change (row_at set rows v.unit))

-- what each unit of a plan requires is known
abbrev pub KnowsAll : Plan → Known → Type 0
KnowsAll Nothing known = Unit {0}
KnowsAll (One u) known = IsSome known.first
KnowsAll (Two u v) known = IsSome known.first × IsSome known.second

-- where all is known nothing is worked out: as many risk arrays are read as were
abbrev pub IsIdle : Plan → Known → ℕ → ℕ → Type 0
IsIdle plan known old new = KnowsAll plan known → new ≡ old

-- a row can change so: nets and sizes stay within their limits
pub record CanChange (set : Tables) (rows : List Row) (u : UnitChange) : Type 0 where
  pub inside : u.unit < length rows
  pub row : IsRow set (row_at set rows u.unit)
  pub change : IsChange set u.change
  pub roomy : IsRoomy u.change (row_at set rows u.unit)

-- all rows of a plan can, and two are of two units
abbrev pub IsPossible : Tables → List Row → Plan → Type 0
IsPossible set rows Nothing = Unit {0}
IsPossible set rows (One u) = CanChange set rows u
IsPossible set rows (Two u v) = CanChange set rows u × CanChange set rows v × (v.unit ≢ u.unit)

-- What a plan leaves of the nets.

abbrev pub moved_nets : Change → UnitNets → UnitNets
moved_nets change nets = record {
  lots = more_at nets.lots change.contract change.lots.quantity;
  buys = more_at nets.buys change.contract change.buys.quantity;
  sales = more_at nets.sales change.contract change.sales.quantity;
  all = more_at nets.all change.contract change.all.quantity;
}

-- the nets of a unit after a change of one
abbrev pub nets_by : UnitChange → ℕ → UnitNets → UnitNets
nets_by u k nets = if u.unit == k then moved_nets u.change nets else nets

abbrev pub planned_nets : Plan → ℕ → UnitNets → UnitNets
planned_nets Nothing k nets = nets
planned_nets (One u) k nets = nets_by u k nets
planned_nets (Two u v) k nets = nets_by v k (nets_by u k nets)

-- each unit that was there has the nets that the plan gives
pub record FollowsPlan (set : Tables) (plan : Plan) (old new : List Row) : Type 0 where
  pub long : length old ≤ length new
  pub each : (k : ℕ) → k < length old → nets_in (row_at set new k) ≡ planned_nets plan k (nets_in (row_at set old k))

-- a command that is done leaves the nets that its plan gives, and any other command those that were there
abbrev pub LeavesNets : Tables → Plan → Reply → List Row → List Row → Type 0
LeavesNets set plan Done old new = FollowsPlan set plan old new
LeavesNets set plan (Figures figures) old new = new ≡ old
LeavesNets set plan (Totals totals) old new = new ≡ old
LeavesNets set plan (NewSet told) old new = new ≡ old
LeavesNets set plan (Statement told) old new = new ≡ old
LeavesNets set plan (Refused why) old new = new ≡ old
