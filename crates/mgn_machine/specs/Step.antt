-- One step of the machine: what a request does to the state, and what it is answered (own profile).
use Rattle.std.specs.Prelude.{ℕ, ◌+◌, true, Option, None, Some, List, [], ◌∷◌, ◌++◌, Result, Ok, Err}
use Rattle.mgn_params.specs.Shelves.{set_at}
use Rattle.mgn_params.specs.Tables.{Tables}
use Rattle.mgn_machine.specs.declared.command.Command.{Command}
use Rattle.mgn_machine.specs.declared.command.Command.TheVariants.{NewOrigin, NewAccount, Trade as OfTrade, Bust, Post, Draw, Ask, Total, EndDay, Hold, Fill, Release, Transfer, Statement as OfStatement}
use Rattle.mgn_machine.specs.declared.command.Mode.{Mode}
use Rattle.mgn_machine.specs.declared.command.Mode.TheVariants.{Gross, Net}
use Rattle.mgn_machine.specs.declared.command.Trade.{Trade}
use Rattle.mgn_machine.specs.declared.reply.Refusal.{Refusal}
use Rattle.mgn_machine.specs.declared.reply.Refusal.TheVariants.{Closed}
use Rattle.mgn_machine.specs.declared.reply.Reply.{Reply}
use Rattle.mgn_machine.specs.declared.reply.Reply.TheVariants.{Done, Figures, NewSet, Totals, Statement, Refused}
use Rattle.mgn_machine.specs.declared.request.Request.{Request}
use Rattle.mgn_machine.specs.declared.request.Request.TheVariants.{Do, Switch}
use Rattle.mgn_machine.specs.State.{State, account_at, put, fresh, with_lot, with_bust, with_amount, traded_lot}
use Rattle.mgn_machine.specs.Room.{figures_of}
use Rattle.mgn_machine.specs.Refusals.{◌>>=◌, refuse_if, origin_fits, home_of, open_home, place_of, trade_places, bust_places, post_place, draw_place, if_room}
use Rattle.mgn_machine.specs.Holding.{entered, filled, released}
use Rattle.mgn_machine.specs.Statements.{statement_of}
use Rattle.mgn_machine.specs.Transfers.{moved}
use Rattle.mgn_machine.specs.NewSet.{set_fits, on_call}
use Rattle.mgn_machine.specs.Totals.{totals_of}

-- an origin more; a netted one makes its unit
abbrev pub with_origin : State → List ℕ → Mode → State
with_origin s name Gross = record s { origins = s.origins ++ record { name = name; unit = None } ∷ [] }
with_origin s name Net =
    record s { origins = s.origins ++ record { name = name; unit = Some s.units } ∷ []; units = s.units + 1 }

abbrev pub originated : State → List ℕ → Mode → Result State Refusal
originated s name mode = do
  _ ← origin_fits s name mode
  Ok (with_origin s name mode)

-- an account more, in a unit of its own or in the origin's
abbrev pub with_account : State → List ℕ → ℕ × Option ℕ → State
with_account s name (origin, None) =
    record s { accounts = s.accounts ++ fresh name origin s.units ∷ []; units = s.units + 1 }
with_account s name (origin, Some u) = record s { accounts = s.accounts ++ fresh name origin u ∷ [] }

abbrev pub opened : State → List ℕ → List ℕ → Result State Refusal
opened s account origin = do
  home ← open_home s account origin
  Ok (with_account s account home)

-- a lot more, as it is traded
abbrev pub traded : Tables → State → Trade → Result State Refusal
traded set s t = do
  at ← trade_places set s t
  Ok (put s at.0 (with_lot (account_at s.accounts at.0) (traded_lot t.lot t.contract t.quantity t.premium)))

-- a lot busted: it stays in the list, and counts for nothing
abbrev pub undone : State → List ℕ → ℕ → Result State Refusal
undone s account lot = do
  at ← bust_places s account lot
  Ok (put s at.0 (with_bust (account_at s.accounts at.0) at.1))

-- cash or units of a class more
abbrev pub posted : Tables → State → List ℕ → List ℕ → ℕ → Result State Refusal
posted set s account class units = do
  at ← post_place set s account class units
  Ok (put s at.0 (with_amount (account_at s.accounts at.0) class at.1))

-- cash or units of a class taken off, where the unit has room without them
abbrev pub drawn : Tables → State → List ℕ → List ℕ → ℕ → Result State Refusal
drawn set s account class units = do
  at ← draw_place set s account class units
  if_room set (account_at s.accounts at.0).unit (put s at.0 (with_amount (account_at s.accounts at.0) class at.1))

-- the figures of the unit of the account at a place
abbrev pub asked : Tables → State → Result ℕ Refusal → Reply
asked set s (Ok k) = Figures (figures_of set s.accounts (account_at s.accounts k).unit)
asked set s (Err why) = Refused why

-- the totals of the origin that was found
abbrev pub totalled : Tables → State → Result (ℕ × Option ℕ) Refusal → Reply
totalled set s (Ok home) = Totals (totals_of set s.accounts home)
totalled set s (Err why) = Refused why

-- the statement of the account at a place
abbrev pub stated : Tables → State → Result ℕ Refusal → Reply
stated set s (Ok k) = Statement (statement_of set s (account_at s.accounts k))
stated set s (Err why) = Refused why

abbrev pub ended : State → Result State Refusal
ended s = do
  _ ← refuse_if s.closed Closed
  Ok record s { closed = true }

-- a change that is done, or refused: then nothing changes
abbrev pub answered : State → Result State Refusal → State × Reply
answered s (Ok now) = (now, Done)
answered s (Err why) = (s, Refused why)

-- a command under the set in force
abbrev pub step_under : Tables → State → Command → State × Reply
step_under set s (NewOrigin name mode) = answered s (originated s name mode)
step_under set s (NewAccount account origin) = answered s (opened s account origin)
step_under set s (OfTrade t) = answered s (traded set s t)
step_under set s (Bust account lot) = answered s (undone s account lot)
step_under set s (Hold h) = answered s (entered set s h)
step_under set s (Fill f) = answered s (filled set s f)
step_under set s (Release account order) = answered s (released s account order)
step_under set s (Transfer m) = answered s (moved set s m)
step_under set s (Post account class units) = answered s (posted set s account class units)
step_under set s (Draw account class units) = answered s (drawn set s account class units)
step_under set s (Ask account) = (s, asked set s (place_of s account))
step_under set s (Total origin) = (s, totalled set s (home_of s.origins origin))
step_under set s (OfStatement account) = (s, stated set s (place_of s account))
step_under set s EndDay = answered s (ended s)

-- a set comes into force under the next version, or is refused
abbrev pub switched : State → ℕ → Result (Unit {0}) Refusal → State × Reply
switched s calls (Ok _) =
    (record s { version = s.version + 1 }, NewSet record { version = s.version + 1; on_call = calls })
switched s calls (Err why) = (s, Refused why)

-- one step, where these are the sets by version
abbrev pub step : List Tables → State → Request → State × Reply
step sets s (Do command) = step_under (set_at sets s.version) s command
step sets s (Switch set) = switched s (on_call set s.accounts s.units) (set_fits set s)
