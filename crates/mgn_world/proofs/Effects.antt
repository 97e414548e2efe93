-- What a command does to accounts and nets, by its units and its plan: that commits keep the world good.
use Rattle.std.proofs.Common.{◌≡◌, ◌≢◌, ◌<◌, ◌≤◌, ◌+◌, ◌∙◌, inl, inr, ⊎_elim, ℕ, Bool, true, false, All, Option, None, Some, List, [], ◌∷◌, length, set, sym, ap, subst, refl, arith, Result, Ok, Err, IfSome}
use Rattle.std.specs.Prelude.{◌==◌, if◌then◌else◌, int_lt, ℤ, pos, neg_ℤ, ◌+ℤ◌, slice_index_or}
use Rattle.std.specs.Str.{bytes_eq}
use Rattle.std.proofs.lemmas.Bool.{cases_eq, eqb-true}
use Rattle.std.proofs.lemmas.Int.{ints}
use Rattle.std.proofs.lemmas.List.{get_or_default, get_or-set_other, length-set}
use Rattle.std.proofs.lemmas.List.Elements.{All-get_or, All-push, All-set}
use Rattle.std.proofs.lemmas.List.Quantifiers.{position-Some}
use Rattle.mgn_params.specs.Limits.{IsWithinLimits}
use Rattle.mgn_params.specs.Tables.{Tables}
use Rattle.mgn_lots.specs.declared.lot.Lot.{Lot}
use Rattle.mgn_lots.specs.Lots.{busted, is_live, lot_at, no_lot}
use Rattle.mgn_holds.specs.declared.held.Held.{Held}
use Rattle.mgn_holds.specs.Holds.{hold_at, no_hold}
use Rattle.mgn_machine.specs.declared.command.Command.{Command}
use Rattle.mgn_machine.specs.declared.command.Command.TheVariants as asked
use Rattle.mgn_machine.specs.declared.command.Fill.{Fill}
use Rattle.mgn_machine.specs.declared.command.Hold.{Hold}
use Rattle.mgn_machine.specs.declared.command.Mode.{Mode}
use Rattle.mgn_machine.specs.declared.command.Mode.TheVariants.{Gross, Net}
use Rattle.mgn_machine.specs.declared.command.Trade.{Trade}
use Rattle.mgn_machine.specs.declared.command.Transfer.{Transfer}
use Rattle.mgn_machine.specs.declared.origin.Origin.{Origin}
use Rattle.mgn_machine.specs.declared.reply.Refusal.{Refusal}
use Rattle.mgn_machine.specs.declared.reply.Refusal.TheVariants.{Closed, NoOrigin, NoRoom}
use Rattle.mgn_machine.specs.declared.reply.Reply.{Reply}
use Rattle.mgn_machine.specs.declared.reply.Reply.TheVariants.{Done, Refused}
use Rattle.mgn_machine.specs.Holding.{entered, fill_of, fill_places, filled, hold_places, new_hold, release_places, released, with_hold, without_hold}
use Rattle.mgn_machine.specs.Portfolios.{Portfolio, OnlyLots, WithBuys, WithSales, WithAll, account_net, unit_sum}
use Rattle.mgn_machine.specs.Refusals.{◌>>=◌, IsKnown, bust_places, contract_of, draw_place, has_contract, home_of, if_room, open_home, origin_fits, place_of, post_place, refuse_if, trade_places}
use Rattle.mgn_machine.specs.Room.{unit_room}
use Rattle.mgn_machine.specs.State.{AccountState, State, account_at, fresh, no_account, put, traded_lot, with_amount, with_bust, with_lot}
use Rattle.mgn_machine.specs.Step.{answered, asked as figures_asked, drawn, ended, opened, originated, posted, stated, step_under, totalled, traded, undone, with_account, with_origin}
use Rattle.mgn_machine.specs.Transfers.{move_places, moved, moved_lot, with_move}
use Rattle.mgn_unit.specs.Changes.{Moves, bust_change, fill_change, gain_of, hold_change, lot_change, moved_change, release_change}
use Rattle.mgn_unit.specs.declared.change.Change.{Change}
use Rattle.mgn_unit.specs.Rows.{nets_in, row_of}
use Rattle.mgn_unit.proofs.AccountMoves.{bust-moves, traded-moves}
use Rattle.mgn_unit.proofs.FillMoves.{All-filled, fill-moves}
use Rattle.mgn_unit.proofs.HoldMoves.{All-removed, hold-moves, release-moves}
use Rattle.mgn_unit.proofs.Moved.{Stands, row-apart, row-moved}
use Rattle.mgn_unit.proofs.Sums.{sum-apart, sum-moved}
use Rattle.mgn_unit.proofs.TransferMoves.{moved-moves}
use Rattle.mgn_plan.specs.declared.plans.Plan.{Plan}
use Rattle.mgn_plan.specs.declared.plans.Plan.TheVariants.{Nothing, One, Two}
use Rattle.mgn_plan.specs.declared.plans.UnitChange.{UnitChange}
use Rattle.mgn_plan.specs.Plans.{bust_plan, bust_plan_at, fill_plan, fill_plan_at, hold_plan, in_unit_of, move_plan, nets_by, plan_of, release_plan, release_plan_at, trade_plan}
use Rattle.mgn_register.proofs.Kept.{contract-stands, found-Some, known-stands, stands-known}
use Rattle.mgn_world.specs.Claims.{IsAmong}
use Rattle.mgn_world.specs.World.{is_done, planned, unit_found, unit_nets, units_found, units_of}
use Rattle.mgn_world.specs.Standing.{IsHoused}
use Rattle.mgn_register.proofs.Found.{first_done, test_passed, place-inside}
use Rattle.mgn_world.proofs.Places.{Takes, bust_at, fill_at, hold_takes, move_at, release_at, trade_at}
use Rattle.mgn_world.proofs.Twins.{IsBare, Keeps, keeps-push, keeps-same, keeps-set, nets-by_sums, nets-kept, twin-both}
use Rattle.mgn_plan.proofs.Nets.{nets_by-same, nets_by-other}

-- what is known before a command
pub record Before (set' : Tables) (s : State) : Type 0 where
  pub limits : IsWithinLimits set'
  pub known : All (IsKnown set') s.accounts
  pub housed : IsHoused s

-- after a change that is done, by the units and the plan of its command
pub record Effect (set' : Tables) (s : State) (us : List ℕ) (plan : Plan) (now : State) : Type 0 where
  pub units : s.units ≤ now.units
  pub kept : Keeps (λ u. IsAmong u us → ⊥) s.accounts now.accounts
  pub housed : IsHoused now
  pub known : All (IsKnown set') now.accounts
  pub nets : (u : ℕ) → unit_nets set' now.accounts u ≡ planned plan set' s.accounts u
  pub same : plan ≡ Nothing → (t : Tables) (u : ℕ) → unit_nets t now.accounts u ≡ unit_nets t s.accounts u

-- after a command, done or refused
pub record Outcome (set' : Tables) (s : State) (us : List ℕ) (plan : Plan) (after : State × Reply) : Type 0 where
  pub units : s.units ≤ after.0.units
  pub kept : Keeps (λ u. IsAmong u us → ⊥) s.accounts after.0.accounts
  pub housed : IsHoused after.0
  pub known : All (IsKnown set') after.0.accounts
  pub same : plan ≡ Nothing → (t : Tables) (u : ℕ) → unit_nets t after.0.accounts u ≡ unit_nets t s.accounts u
  pub nets : is_done after.1 ≡ true → (u : ℕ) → unit_nets set' after.0.accounts u ≡ planned plan set' s.accounts u
  pub open_day : is_done after.1 ≡ true → s.closed ≡ false
  pub refused : is_done after.1 ≡ false → after.0 ≡ s

not_both : {X : Type 0} (b : Bool) → b ≡ true → b ≡ false → X
not_both true a b = cc
not_both false a b = cc

none : (set' : Tables) (s : State) (us : List ℕ) (plan : Plan) (reply : Reply) → Before set' s → is_done reply ≡ false → Outcome set' s us plan (s, reply)
none set' s us plan reply before not_done = record {
  units = omega arith;
  kept = keeps-same (λ u. IsAmong u us → ⊥) s.accounts;
  housed = before.housed;
  known = before.known;
  same = λ e t u. refl;
  nets = λ yes_done u. not_both (is_done reply) yes_done not_done;
  open_day = λ yes_done. not_both (is_done reply) yes_done not_done;
  refused = λ e. refl;
}

done : (set' : Tables) (s : State) (us : List ℕ) (plan : Plan) (now : State) → s.closed ≡ false → Effect set' s us plan now → Outcome set' s us plan (now, Done)
done set' s us plan now open_day e = record {
  units = e.units;
  kept = e.kept;
  housed = e.housed;
  known = e.known;
  same = e.same;
  nets = λ d u. e.nets u;
  open_day = λ d. open_day;
  refused = λ not_done. not_both true refl not_done;
}

-- where room is asked
in_room : (set' : Tables) (s : State) (us : List ℕ) (plan : Plan) (now : State) (b : Bool) → Before set' s → s.closed ≡ false → Effect set' s us plan now → Outcome set' s us plan (answered s (if b then Err NoRoom else Ok now))
in_room set' s us plan now true before open_day e = none set' s us plan _ before refl
in_room set' s us plan now false before open_day e = done set' s us plan now open_day e

in_rooms : (set' : Tables) (s : State) (us : List ℕ) (plan : Plan) (now : State) (a b : Bool) → Before set' s → s.closed ≡ false → Effect set' s us plan now
    → Outcome set' s us plan (answered s ((if a then Err NoRoom else Ok now) >>= (λ (t : State). if b then Err NoRoom else Ok now)))
in_rooms set' s us plan now true b before open_day e = none set' s us plan _ before refl
in_rooms set' s us plan now false b before open_day e = in_room set' s us plan now b before open_day e

-- One account changed.

abbrev changed_at : List AccountState → ℕ → Change → UnitChange
changed_at accounts k change = record { account = k; unit = (account_at accounts k).unit; change = change }

nets-put : (set' : Tables) (accounts : List AccountState) (k u : ℕ) (b : AccountState) (contract : List ℕ) (change : Change) → k < length accounts → Stands set' contract change.contract → Moves set' contract change (account_at accounts k) b
    → nets_in (row_of set' (set accounts k b) u) ≡ nets_by (changed_at accounts k change) u (nets_in (row_of set' accounts u))
nets-put set' accounts k u b contract change inside stands moves = ⊎_elim
    (λ (e : (account_at accounts k).unit ≡ u). ap nets_in (row-moved set' accounts k u b contract change stands record { inside = inside; was = e; now = moves.unit ∙ e } moves)
    ∙ sym (nets_by-same (changed_at accounts k change) u (nets_in (row_of set' accounts u)) e))
    (λ (n : (account_at accounts k).unit ≢ u). ap nets_in (row-apart set' accounts k u b inside n moves.unit)
    ∙ sym (nets_by-other (changed_at accounts k change) u (nets_in (row_of set' accounts u)) n))
    (cases_eq (account_at accounts k).unit u)

-- what replaces an account
record Renews (set' : Tables) (contract : List ℕ) (change : Change) (a b : AccountState) : Type 0 where
  moves : Moves set' contract change a b
  name : b.name ≡ a.name
  origin : b.origin ≡ a.origin
  known : IsKnown set' a → IsKnown set' b

housed-put : (s : State) (k : ℕ) (b : AccountState) → k < length s.accounts → b.unit ≡ (account_at s.accounts k).unit → IsHoused s → IsHoused (put s k b)
housed-put s k b inside unit h = record {
  accounts = All-set (λ (a : AccountState). a.unit < s.units) s.accounts k b
      (subst (λ (u : ℕ). u < s.units) (sym unit) (All-get_or (λ (a : AccountState). a.unit < s.units) s.accounts k no_account inside h.accounts)) h.accounts;
  origins = h.origins;
}

effect-put : (set' : Tables) (s : State) (us : List ℕ) (k : ℕ) (b : AccountState) (contract : List ℕ) (change : Change) → Before set' s → k < length s.accounts → us ≡ (account_at s.accounts k).unit ∷ []
    → Stands set' contract change.contract → Renews set' contract change (account_at s.accounts k) b → Effect set' s us (One (in_unit_of s k change)) (put s k b)
effect-put set' s us k b contract change before inside are stands renews = record {
  units = omega arith;
  kept = keeps-set (λ u. IsAmong u us → ⊥) s.accounts k b record {
    name = renews.name;
    origin = renews.origin;
    unit = renews.moves.unit;
    lots = λ none. absurd (none here);
    holds = λ none. absurd (none here);
  };
  housed = housed-put s k b inside renews.moves.unit before.housed;
  known = All-set (IsKnown set') s.accounts k b (renews.known (All-get_or (IsKnown set') s.accounts k no_account inside before.known)) before.known;
  nets = λ u. nets-put set' s.accounts k u b contract change inside stands renews.moves;
  same = λ e. absurd (cc);
}
  where
    here : IsAmong (account_at s.accounts k).unit us
    here = subst (IsAmong (account_at s.accounts k).unit) (sym are) (inl refl)

one_unit : (s : State) (name : List ℕ) (k : ℕ) → place_of s name ≡ Ok k → unit_found s (place_of s name) ≡ (account_at s.accounts k).unit ∷ []
one_unit s name k here = ap (unit_found s) here

known-lot : (set' : Tables) (a : AccountState) (x : Lot) → has_contract set' x.contract ≡ true → IsKnown set' a → IsKnown set' (with_lot a x)
known-lot set' a x has known = record {
  lots = All-push (λ (y : Lot). is_live y.mark ≡ true → has_contract set' y.contract ≡ true) a.lots x known.lots (λ live. has);
  holds = known.holds;
}

known-bust : (set' : Tables) (a : AccountState) (i : ℕ) → IsKnown set' a → IsKnown set' (with_bust a i)
known-bust set' a i known = record {
  lots = All-set (λ (y : Lot). is_live y.mark ≡ true → has_contract set' y.contract ≡ true) a.lots i (busted (lot_at a.lots i)) (λ (live : false ≡ true). not_both false live refl) known.lots;
  holds = known.holds;
}

-- TRADE
trade-outcome : (set' : Tables) (s : State) (t : Trade) → Before set' s → Outcome set' s (unit_found s (place_of s t.account)) (trade_plan s t (trade_places set' s t)) (answered s (traded set' s t))
trade-outcome set' s t before = by (trade_places set' s t) refl
  where
    us : List ℕ
    us = unit_found s (place_of s t.account)

    by : (r : Result (ℕ × ℕ) Refusal) → trade_places set' s t ≡ r
        → Outcome set' s us (trade_plan s t r) (answered s (r >>= (λ (at : ℕ × ℕ). Ok (put s at.0 (with_lot (account_at s.accounts at.0) (traded_lot t.lot t.contract t.quantity t.premium))))))
    by (Err why) e = none set' s us Nothing (Refused why) before refl
    by (Ok at) e =
        let there = trade_at set' s t at e in
        let a = account_at s.accounts at.0 in
        let stands = contract-stands set' t.contract at.1 before.limits there.1 in
        done set' s us _ _ there.0.open_day
        (effect-put set' s us at.0 _ t.contract (lot_change at.1 t.quantity t.premium) before (place-inside s t.account at.0 there.0.place) (one_unit s t.account at.0 there.0.place) stands record {
          moves = traded-moves set' a t.lot t.contract at.1 t.quantity t.premium;
          name = refl;
          origin = refl;
          known = known-lot set' a (traded_lot t.lot t.contract t.quantity t.premium) (stands-known set' t.contract at.1 stands);
        })

-- BUST
bust-outcome : (set' : Tables) (s : State) (account : List ℕ) (lot : ℕ) → Before set' s → Outcome set' s (unit_found s (place_of s account)) (bust_plan set' s (bust_places s account lot)) (answered s (undone s account lot))
bust-outcome set' s account lot before = by (bust_places s account lot) refl
  where
    us : List ℕ
    us = unit_found s (place_of s account)

    at_lot : (at : ℕ × ℕ) → bust_places s account lot ≡ Ok at → (r : Result ℕ Refusal) → contract_of set' (lot_at (account_at s.accounts at.0).lots at.1).contract ≡ r
        → Outcome set' s us (bust_plan_at s at.0 (lot_at (account_at s.accounts at.0).lots at.1) r) (put s at.0 (with_bust (account_at s.accounts at.0) at.1), Done)
    at_lot at e (Ok i) here =
        let there = bust_at set' s account lot at e in
        let a = account_at s.accounts at.0 in
        let x = lot_at a.lots at.1 in
        done set' s us _ _ there.0.open_day
        (effect-put set' s us at.0 _ x.contract (bust_change i x) before (place-inside s account at.0 there.0.place) (one_unit s account at.0 there.0.place) (contract-stands set' x.contract i before.limits here) record {
          moves = bust-moves set' a i at.1 there.1 there.2;
          name = refl;
          origin = refl;
          known = known-bust set' a at.1;
        })
    at_lot at e (Err why) here =
        let there = bust_at set' s account lot at e in
        let a = account_at s.accounts at.0 in
        let known = All-get_or (IsKnown set') s.accounts at.0 no_account (place-inside s account at.0 there.0.place) before.known in
        absurd (known-stands set' (lot_at a.lots at.1).contract why (known.lots at.1 no_lot there.1 there.2) here)

    by : (r : Result (ℕ × ℕ) Refusal) → bust_places s account lot ≡ r
        → Outcome set' s us (bust_plan set' s r) (answered s (r >>= (λ (at : ℕ × ℕ). Ok (put s at.0 (with_bust (account_at s.accounts at.0) at.1)))))
    by (Err why) e = none set' s us Nothing (Refused why) before refl
    by (Ok at) e = at_lot at e _ refl

-- HOLD
hold-outcome : (set' : Tables) (s : State) (h : Hold) → Before set' s → Outcome set' s (unit_found s (place_of s h.account)) (hold_plan s h (hold_places set' s h)) (answered s (entered set' s h))
hold-outcome set' s h before = by (hold_places set' s h) refl
  where
    us : List ℕ
    us = unit_found s (place_of s h.account)

    by : (r : Result (ℕ × ℕ) Refusal) → hold_places set' s h ≡ r
        → Outcome set' s us (hold_plan s h r) (answered s (r >>= (λ (at : ℕ × ℕ). if_room set' (account_at s.accounts at.0).unit (put s at.0 (with_hold (account_at s.accounts at.0) (new_hold h))))))
    by (Err why) e = none set' s us Nothing (Refused why) before refl
    by (Ok at) e =
        let there = hold_takes set' s h at e in
        let a = account_at s.accounts at.0 in
        let b = with_hold a (new_hold h) in
        let stands = contract-stands set' h.contract at.1 before.limits there.1 in
        in_room set' s us _ (put s at.0 b) (int_lt (unit_room set' (put s at.0 b).accounts a.unit) (pos 0)) before there.0.open_day
        (effect-put set' s us at.0 b h.contract (hold_change at.1 h.quantity h.limit) before (place-inside s h.account at.0 there.0.place) (one_unit s h.account at.0 there.0.place) stands record {
          moves = hold-moves set' a at.1 h;
          name = refl;
          origin = refl;
          known = λ known. record {
            lots = known.lots;
            holds = All-push (λ (y : Held). has_contract set' y.contract ≡ true) a.holds (new_hold h) known.holds (stands-known set' h.contract at.1 stands);
          };
        })

-- FILL
fill-outcome : (set' : Tables) (s : State) (f : Fill) → Before set' s → Outcome set' s (unit_found s (place_of s f.account)) (fill_plan set' s f (fill_places set' s f)) (answered s (filled set' s f))
fill-outcome set' s f before = by (fill_places set' s f) refl
  where
    us : List ℕ
    us = unit_found s (place_of s f.account)

    at_hold : (at : ℕ × ℕ) → fill_places set' s f ≡ Ok at → (r : Result ℕ Refusal) → contract_of set' (hold_at (account_at s.accounts at.0).holds at.1).contract ≡ r
        → Outcome set' s us (fill_plan_at s at.0 (hold_at (account_at s.accounts at.0).holds at.1) f r) (put s at.0 (fill_of (account_at s.accounts at.0) at.1 f), Done)
    at_hold at e (Ok i) here =
        let there = fill_at set' s f at e in
        let a = account_at s.accounts at.0 in
        let x = hold_at a.holds at.1 in
        let stands = contract-stands set' x.contract i before.limits here in
        done set' s us _ _ there.0.open_day
        (effect-put set' s us at.0 _ x.contract (fill_change i f.quantity x.limit f.premium) before (place-inside s f.account at.0 there.0.place) (one_unit s f.account at.0 there.0.place) stands record {
          moves = fill-moves set' a i at.1 f there.1 there.2;
          name = refl;
          origin = refl;
          known = λ known. record {
            lots = All-push (λ (z : Lot). is_live z.mark ≡ true → has_contract set' z.contract ≡ true) a.lots (traded_lot f.lot x.contract f.quantity f.premium) known.lots (λ live. stands-known set' x.contract i stands);
            holds = All-filled (λ (z : Held). has_contract set' z.contract ≡ true) a.holds at.1 f.quantity known.holds (λ part. stands-known set' x.contract i stands);
          };
        })
    at_hold at e (Err why) here =
        let there = fill_at set' s f at e in
        let a = account_at s.accounts at.0 in
        let known = All-get_or (IsKnown set') s.accounts at.0 no_account (place-inside s f.account at.0 there.0.place) before.known in
        absurd (known-stands set' (hold_at a.holds at.1).contract why (known.holds at.1 no_hold there.1) here)

    by : (r : Result (ℕ × ℕ) Refusal) → fill_places set' s f ≡ r
        → Outcome set' s us (fill_plan set' s f r) (answered s (r >>= (λ (at : ℕ × ℕ). Ok (put s at.0 (fill_of (account_at s.accounts at.0) at.1 f)))))
    by (Err why) e = none set' s us Nothing (Refused why) before refl
    by (Ok at) e = at_hold at e _ refl

-- RELEASE
release-outcome : (set' : Tables) (s : State) (account : List ℕ) (order : ℕ) → Before set' s → Outcome set' s (unit_found s (place_of s account)) (release_plan set' s (release_places s account order)) (answered s (released s account order))
release-outcome set' s account order before = by (release_places s account order) refl
  where
    us : List ℕ
    us = unit_found s (place_of s account)

    at_hold : (at : ℕ × ℕ) → release_places s account order ≡ Ok at → (r : Result ℕ Refusal) → contract_of set' (hold_at (account_at s.accounts at.0).holds at.1).contract ≡ r
        → Outcome set' s us (release_plan_at s at.0 (hold_at (account_at s.accounts at.0).holds at.1) r) (put s at.0 (without_hold (account_at s.accounts at.0) at.1), Done)
    at_hold at e (Ok i) here =
        let there = release_at s account order at e in
        let a = account_at s.accounts at.0 in
        let x = hold_at a.holds at.1 in
        done set' s us _ _ there.0.open_day
        (effect-put set' s us at.0 _ x.contract (release_change i x.quantity x.limit) before (place-inside s account at.0 there.0.place) (one_unit s account at.0 there.0.place) (contract-stands set' x.contract i before.limits here) record {
          moves = release-moves set' a i at.1 x there.1 (get_or_default a.holds at.1 no_hold x there.1);
          name = refl;
          origin = refl;
          known = λ known. record { lots = known.lots; holds = All-removed (λ (z : Held). has_contract set' z.contract ≡ true) a.holds at.1 known.holds };
        })
    at_hold at e (Err why) here =
        let there = release_at s account order at e in
        let a = account_at s.accounts at.0 in
        let known = All-get_or (IsKnown set') s.accounts at.0 no_account (place-inside s account at.0 there.0.place) before.known in
        absurd (known-stands set' (hold_at a.holds at.1).contract why (known.holds at.1 no_hold there.1) here)

    by : (r : Result (ℕ × ℕ) Refusal) → release_places s account order ≡ r
        → Outcome set' s us (release_plan set' s r) (answered s (r >>= (λ (at : ℕ × ℕ). Ok (put s at.0 (without_hold (account_at s.accounts at.0) at.1)))))
    by (Err why) e = none set' s us Nothing (Refused why) before refl
    by (Ok at) e = at_hold at e _ refl

-- MOVE

-- the accounts with both lots
abbrev with_lots : List AccountState → ℕ → ℕ → Lot → Lot → List AccountState
with_lots accounts g k x y = set (set accounts g (with_lot (account_at accounts g) x)) k (with_lot (account_at accounts k) y)

other_there : (accounts : List AccountState) (g k : ℕ) (b : AccountState) → k ≢ g → account_at (set accounts g b) k ≡ account_at accounts k
other_there accounts g k b apart = get_or-set_other accounts g k b no_account apart

gains : (p : Portfolio) (i : ℕ) (q : ℤ) → (gain_of (moved_change i q) p).quantity ≡ q
gains OnlyLots i q = refl
gains WithBuys i q = refl
gains WithSales i q = refl
gains WithAll i q = refl

shared : (b : Bool) (q : ℤ) → (if b then neg_ℤ q else pos 0) +ℤ (if b then q else pos 0) ≡ pos 0
shared true q = omega (arith, ints)
shared false q = refl

-- what a moved lot counts for
lot-counts : (set' : Tables) (a : AccountState) (p : Portfolio) (c : List ℕ) (m : Transfer) (q : ℤ) → account_net p c (with_lot a (moved_lot m.lot m.contract q)) ≡ account_net p c a +ℤ (if bytes_eq m.contract c then q else pos 0)
lot-counts set' a p c m q = (moved-moves set' a m.lot m.contract 0 q).net p c ∙ ap (λ (z : ℤ). account_net p c a +ℤ (if bytes_eq m.contract c then z else pos 0)) (gains p 0 q)

-- within a unit nothing counts for more
sum-within : (set' : Tables) (accounts : List AccountState) (g k u : ℕ) (p : Portfolio) (c : List ℕ) (m : Transfer) → g < length accounts → k < length accounts → k ≢ g → (account_at accounts g).unit ≡ (account_at accounts k).unit
    → unit_sum u (account_net p c) (with_lots accounts g k (moved_lot m.lot m.contract (neg_ℤ m.quantity)) (moved_lot m.lot m.contract m.quantity)) ≡ unit_sum u (account_net p c) accounts
sum-within set' accounts g k u p c m there here apart one = ⊎_elim own other (cases_eq (account_at accounts g).unit u)
  where
    f : AccountState → ℤ
    f = account_net p c

    a : AccountState
    a = with_lot (account_at accounts g) (moved_lot m.lot m.contract (neg_ℤ m.quantity))

    b : AccountState
    b = with_lot (account_at accounts k) (moved_lot m.lot m.contract m.quantity)

    first : List AccountState
    first = set accounts g a

    inside : k < length first
    inside = omega (arith, here, length-set accounts g a)

    kept : account_at first k ≡ account_at accounts k
    kept = other_there accounts g k a apart

    own : (account_at accounts g).unit ≡ u → unit_sum u f (set first k b) ≡ unit_sum u f accounts
    own e =
        let given = sum-moved u f accounts g a (if bytes_eq m.contract c then neg_ℤ m.quantity else pos 0) there e e (lot-counts set' (account_at accounts g) p c m (neg_ℤ m.quantity)) in
        let taken = sum-moved u f first k b (if bytes_eq m.contract c then m.quantity else pos 0) inside (ap (λ (x : AccountState). x.unit) kept ∙ sym one ∙ e) (sym one ∙ e)
        (lot-counts set' (account_at accounts k) p c m m.quantity ∙ ap (λ (x : AccountState). f x +ℤ (if bytes_eq m.contract c then m.quantity else pos 0)) (sym kept)) in
        omega (arith, ints, given, taken, shared (bytes_eq m.contract c) m.quantity)

    other : (account_at accounts g).unit ≢ u → unit_sum u f (set first k b) ≡ unit_sum u f accounts
    other n =
        sum-apart u f first k b inside (λ (e : (account_at first k).unit ≡ u). n (one ∙ sym (ap (λ (x : AccountState). x.unit) kept) ∙ e)) (sym (ap (λ (x : AccountState). x.unit) kept))
        ∙ sum-apart u f accounts g a there n refl

keeps-both : (M : ℕ → Type 0) (xs ys zs : List AccountState) → length ys ≡ length xs → Keeps M xs ys → Keeps M ys zs → Keeps M xs zs
keeps-both M [] [] zs long first second = second
keeps-both M [] (b ∷ ys) zs long first second = absurd (omega (arith, long))
keeps-both M (a ∷ xs) [] zs long first second = absurd first
keeps-both M (a ∷ xs) (b ∷ ys) [] long first second = absurd second
keeps-both M (a ∷ xs) (b ∷ ys) (c ∷ zs) long first second = (twin-both M a b c first.0 second.0, keeps-both M xs ys zs (omega (arith, long)) first.1 second.1)

-- the account at a place with a lot more, whose unit is none of those left alone
more-lots : (M : ℕ → Type 0) (accounts : List AccountState) (k : ℕ) (a : AccountState) (x : Lot) → account_at accounts k ≡ a → (M a.unit → ⊥) → Keeps M accounts (set accounts k (with_lot a x))
more-lots M accounts k a x is none = keeps-set M accounts k (with_lot a x) record {
  name = ap (λ (y : AccountState). y.name) (sym is);
  origin = ap (λ (y : AccountState). y.origin) (sym is);
  unit = ap (λ (y : AccountState). y.unit) (sym is);
  lots = λ m. absurd (none (subst (λ (y : AccountState). M y.unit) is m));
  holds = λ m. absurd (none (subst (λ (y : AccountState). M y.unit) is m));
}

effect-move : (set' : Tables) (s : State) (us : List ℕ) (m : Transfer) (g k i : ℕ) (one : Bool) → Before set' s → g < length s.accounts → k < length s.accounts → k ≢ g → contract_of set' m.contract ≡ Ok i
    → us ≡ (account_at s.accounts g).unit ∷ (account_at s.accounts k).unit ∷ [] → (account_at s.accounts g).unit == (account_at s.accounts k).unit ≡ one
    → Effect set' s us (if one then Nothing else Two (in_unit_of s g (moved_change i (neg_ℤ m.quantity))) (in_unit_of s k (moved_change i m.quantity))) (with_move s g k m)
effect-move set' s us m g k i one before there here apart known are is = record {
  units = omega arith;
  kept = keeps-both (λ u. IsAmong u us → ⊥) s.accounts first (with_move s g k m).accounts (length-set s.accounts g a)
      (more-lots (λ u. IsAmong u us → ⊥) s.accounts g (account_at s.accounts g) _ refl (λ none. none (subst (IsAmong (account_at s.accounts g).unit) (sym are) (inl refl))))
      (more-lots (λ u. IsAmong u us → ⊥) first k (account_at s.accounts k) _ kept_there (λ none. none (subst (IsAmong (account_at s.accounts k).unit) (sym are) (inr (inl refl)))));
  housed = housed-put (put s g a) k b inside (ap (λ (x : AccountState). x.unit) (sym kept_there)) (housed-put s g a there refl before.housed);
  known = All-set (IsKnown set') first k b (known-lot set' (account_at s.accounts k) _ has (All-get_or (IsKnown set') s.accounts k no_account here before.known))
      (All-set (IsKnown set') s.accounts g a (known-lot set' (account_at s.accounts g) _ has (All-get_or (IsKnown set') s.accounts g no_account there before.known)) before.known);
  nets = λ u. nets one is u;
  same = λ e t u. same one is e t u;
}
  where
    a : AccountState
    a = with_lot (account_at s.accounts g) (moved_lot m.lot m.contract (neg_ℤ m.quantity))

    b : AccountState
    b = with_lot (account_at s.accounts k) (moved_lot m.lot m.contract m.quantity)

    first : List AccountState
    first = set s.accounts g a

    inside : k < length first
    inside = omega (arith, here, length-set s.accounts g a)

    kept_there : account_at first k ≡ account_at s.accounts k
    kept_there = other_there s.accounts g k a apart

    stands : Stands set' m.contract i
    stands = contract-stands set' m.contract i before.limits known

    has : has_contract set' m.contract ≡ true
    has = stands-known set' m.contract i stands

    within : (account_at s.accounts g).unit == (account_at s.accounts k).unit ≡ true → (t : Tables) (u : ℕ) → unit_nets t (with_move s g k m).accounts u ≡ unit_nets t s.accounts u
    within e t u = nets-by_sums t u s.accounts (with_move s g k m).accounts (λ p c. sum-within t s.accounts g k u p c m there here apart (eqb-true _ _ e))

    given : Change
    given = moved_change i (neg_ℤ m.quantity)

    taken : Change
    taken = moved_change i m.quantity

    nets : (o : Bool) → (account_at s.accounts g).unit == (account_at s.accounts k).unit ≡ o → (u : ℕ)
        → unit_nets set' (with_move s g k m).accounts u ≡ planned (if o then Nothing else Two (in_unit_of s g given) (in_unit_of s k taken)) set' s.accounts u
    nets true e u = within e set' u
    nets false e u =
        nets-put set' first k u b m.contract taken inside stands (subst (λ (x : AccountState). Moves set' m.contract taken x b) (sym kept_there) (moved-moves set' (account_at s.accounts k) m.lot m.contract i m.quantity))
        ∙ ap (λ (x : AccountState). nets_by record { account = k; unit = x.unit; change = taken } u (nets_in (row_of set' first u))) kept_there
        ∙ ap (nets_by (in_unit_of s k taken) u) (nets-put set' s.accounts g u a m.contract given there stands (moved-moves set' (account_at s.accounts g) m.lot m.contract i (neg_ℤ m.quantity)))

    same : (o : Bool) → (account_at s.accounts g).unit == (account_at s.accounts k).unit ≡ o → (if o then Nothing else Two (in_unit_of s g given) (in_unit_of s k taken)) ≡ Nothing
        → (t : Tables) (u : ℕ) → unit_nets t (with_move s g k m).accounts u ≡ unit_nets t s.accounts u
    same true e none t u = within e t u
    same false e none t u = absurd (cc)

move-outcome : (set' : Tables) (s : State) (m : Transfer) → Before set' s → Outcome set' s (units_found s (place_of s m.from) (place_of s m.to)) (move_plan s m (move_places set' s m)) (answered s (moved set' s m))
move-outcome set' s m before = by (move_places set' s m) refl
  where
    us : List ℕ
    us = units_found s (place_of s m.from) (place_of s m.to)

    by : (r : Result (ℕ × ℕ × ℕ) Refusal) → move_places set' s m ≡ r
        → Outcome set' s us (move_plan s m r) (answered s (r >>= (λ (at : ℕ × ℕ × ℕ). if_room set' (account_at s.accounts at.0).unit (with_move s at.0 at.1 m) >>= (λ (now : State). if_room set' (account_at s.accounts at.1).unit (with_move s at.0 at.1 m)))))
    by (Err why) e = none set' s us Nothing (Refused why) before refl
    by (Ok (g, k, i)) e =
        let there = move_at set' s m (g, k, i) e in
        let now = with_move s g k m in
        in_rooms set' s us _ now (int_lt (unit_room set' now.accounts (account_at s.accounts g).unit) (pos 0)) (int_lt (unit_room set' now.accounts (account_at s.accounts k).unit) (pos 0)) before there.0.open_day
        (effect-move set' s us m g k i ((account_at s.accounts g).unit == (account_at s.accounts k).unit) before (place-inside s m.from g there.0.place) (place-inside s m.to k there.1.place) there.2 there.3
        (λ j. units_found s (there.0.place j) (there.1.place j)) refl)

-- Commands that change no portfolio.

-- all units are left alone
effect-kept : (set' : Tables) (s now : State) → s.units ≤ now.units → ((M : ℕ → Type 0) → Keeps M s.accounts now.accounts) → IsHoused now → All (IsKnown set') now.accounts → Effect set' s [] Nothing now
effect-kept set' s now units kept housed known = record {
  units = units;
  kept = kept (λ u. IsAmong u [] → ⊥);
  housed = housed;
  known = known;
  nets = λ u. nets-kept (λ (v : ℕ). Unit {0}) set' u s.accounts now.accounts tt (kept (λ (v : ℕ). Unit {0}));
  same = λ e t u. nets-kept (λ (v : ℕ). Unit {0}) t u s.accounts now.accounts tt (kept (λ (v : ℕ). Unit {0}));
}

some_more : (o : Option ℕ) (n : ℕ) → IfSome o (λ u. u < n) → IfSome o (λ u. u < n + 1)
some_more None n h = tt
some_more (Some u) n h = omega (arith, h)

housed_more : (s : State) → IsHoused s → IsHoused (record s { units = s.units + 1 })
housed_more s h = record {
  accounts = λ i d inside. omega (arith, h.accounts i d inside);
  origins = λ i d inside. some_more _ s.units (h.origins i d inside);
}

origin-effect : (set' : Tables) (s : State) (name : List ℕ) (mode : Mode) → Before set' s → Effect set' s [] Nothing (with_origin s name mode)
origin-effect set' s name Gross before = effect-kept set' s (with_origin s name Gross) (omega arith) (λ M. keeps-same M s.accounts)
    record { accounts = before.housed.accounts; origins = All-push (λ (o : Origin). IfSome o.unit (λ u. u < s.units)) s.origins _ before.housed.origins tt } before.known
origin-effect set' s name Net before = effect-kept set' s (with_origin s name Net) (omega arith) (λ M. keeps-same M s.accounts)
    record {
      accounts = (housed_more s before.housed).accounts;
      origins = All-push (λ (o : Origin). IfSome o.unit (λ u. u < s.units + 1)) s.origins _ (housed_more s before.housed).origins (omega arith);
    } before.known

bare : (name : List ℕ) (origin u : ℕ) → IsBare (fresh name origin u)
bare name origin u = record { lots = refl; holds = refl }

known-fresh : (set' : Tables) (name : List ℕ) (origin u : ℕ) → IsKnown set' (fresh name origin u)
known-fresh set' name origin u = record { lots = λ i d inside. absurd (omega (arith, inside)); holds = λ i d inside. absurd (omega (arith, inside)) }

account-effect : (set' : Tables) (s : State) (name : List ℕ) (home : ℕ × Option ℕ) → Before set' s → IfSome home.1 (λ u. u < s.units) → Effect set' s [] Nothing (with_account s name home)
account-effect set' s name (origin, None) before within = effect-kept set' s (with_account s name (origin, None)) (omega arith) (λ M. keeps-push M s.accounts (fresh name origin s.units) (bare name origin s.units))
    record {
      accounts = All-push (λ (a : AccountState). a.unit < s.units + 1) s.accounts _ (housed_more s before.housed).accounts (omega arith);
      origins = (housed_more s before.housed).origins;
    } (All-push (IsKnown set') s.accounts _ before.known (known-fresh set' name origin s.units))
account-effect set' s name (origin, Some u) before within = effect-kept set' s (with_account s name (origin, Some u)) (omega arith) (λ M. keeps-push M s.accounts (fresh name origin u) (bare name origin u))
    record {
      accounts = All-push (λ (a : AccountState). a.unit < s.units) s.accounts _ before.housed.accounts within;
      origins = before.housed.origins;
    } (All-push (IsKnown set') s.accounts _ before.known (known-fresh set' name origin u))

abbrev first_of : Result (ℕ × ℕ) Refusal → ℕ
first_of (Ok x) = x.0
first_of (Err why) = 0

abbrev no_origin : Origin
no_origin = record { name = []; unit = None }

home_at : (s : State) (name : List ℕ) (home : ℕ × Option ℕ) → IsHoused s → home_of s.origins name ≡ Ok home → IfSome home.1 (λ u. u < s.units)
unfolding home_of
home_at s name home h e =
    let i = first_done _ _ home e in
    let same : (i.0, (slice_index_or s.origins i.0 no_origin).unit) ≡ home = cc (i.1.1) in
    let inside : i.0 < length s.origins = (position-Some (λ (o : Origin). bytes_eq o.name name) s.origins i.0 no_origin (found-Some _ NoOrigin i.0 i.1.0)).0 in
    subst (λ (x : ℕ × Option ℕ). IfSome x.1 (λ u. u < s.units)) same (All-get_or (λ (o : Origin). IfSome o.unit (λ u. u < s.units)) s.origins i.0 no_origin inside h.origins)

open_at : (s : State) (account origin : List ℕ) (home : ℕ × Option ℕ) → open_home s account origin ≡ Ok home → (s.closed ≡ false) × (home_of s.origins origin ≡ Ok home)
unfolding open_home
open_at s account origin home e =
    let a = test_passed _ _ _ home e in
    let h = first_done _ _ home a.1 in
    let b = test_passed _ _ _ home h.1.1 in
    let c = test_passed _ _ _ home b.1 in
    let d = test_passed _ _ _ home c.1 in
    let same : h.0 ≡ home = cc (d.1) in
    (a.0, h.1.0 ∙ ap (λ (x : ℕ × Option ℕ). Ok x) same)

origin_open : (s : State) (name : List ℕ) (mode : Mode) (u : Unit {0}) → origin_fits s name mode ≡ Ok u → s.closed ≡ false
unfolding origin_fits
origin_open s name mode u e = (test_passed _ _ _ u e).0

post_open : (set' : Tables) (s : State) (account class : List ℕ) (units : ℕ) (at : ℕ × ℕ) → post_place set' s account class units ≡ Ok at → Takes s account at.0
unfolding post_place
post_open set' s account class units at e =
    let a = test_passed _ _ _ at e in
    let k = first_done _ _ at a.1 in
    let b = test_passed _ _ _ at k.1.1 in
    let c = test_passed _ _ _ at b.1 in
    let same : k.0 ≡ at.0 = ap first_of c.1 in
    record { open_day = a.0; place = k.1.0 ∙ ap (λ (n : ℕ). Ok n) same }

draw_open : (set' : Tables) (s : State) (account class : List ℕ) (units : ℕ) (at : ℕ × ℕ) → draw_place set' s account class units ≡ Ok at → Takes s account at.0
unfolding draw_place
draw_open set' s account class units at e =
    let a = test_passed _ _ _ at e in
    let k = first_done _ _ at a.1 in
    let b = test_passed _ _ _ at k.1.1 in
    let c = test_passed _ _ _ at b.1 in
    let same : k.0 ≡ at.0 = ap first_of c.1 in
    record { open_day = a.0; place = k.1.0 ∙ ap (λ (n : ℕ). Ok n) same }

amount-effect : (set' : Tables) (s : State) (k amount : ℕ) (class : List ℕ) → Before set' s → k < length s.accounts → Effect set' s [] Nothing (put s k (with_amount (account_at s.accounts k) class amount))
amount-effect set' s k amount class before inside =
    let b = with_amount (account_at s.accounts k) class amount in
    let known = All-get_or (IsKnown set') s.accounts k no_account inside before.known in
    effect-kept set' s (put s k b) (omega arith) (λ M. keeps-set M s.accounts k b record { name = refl; origin = refl; unit = refl; lots = λ m. refl; holds = λ m. refl })
    (housed-put s k b inside refl before.housed) (All-set (IsKnown set') s.accounts k b record { lots = known.lots; holds = known.holds } before.known)

origin-outcome : (set' : Tables) (s : State) (name : List ℕ) (mode : Mode) → Before set' s → Outcome set' s [] Nothing (answered s (originated s name mode))
origin-outcome set' s name mode before = by (origin_fits s name mode) refl
  where
    by : (r : Result (Unit {0}) Refusal) → origin_fits s name mode ≡ r → Outcome set' s [] Nothing (answered s (r >>= (λ (u : Unit {0}). Ok (with_origin s name mode))))
    by (Err why) e = none set' s [] Nothing (Refused why) before refl
    by (Ok u) e = done set' s [] Nothing _ (origin_open s name mode u e) (origin-effect set' s name mode before)

account-outcome : (set' : Tables) (s : State) (account origin : List ℕ) → Before set' s → Outcome set' s [] Nothing (answered s (opened s account origin))
account-outcome set' s account origin before = by (open_home s account origin) refl
  where
    by : (r : Result (ℕ × Option ℕ) Refusal) → open_home s account origin ≡ r → Outcome set' s [] Nothing (answered s (r >>= (λ (home : ℕ × Option ℕ). Ok (with_account s account home))))
    by (Err why) e = none set' s [] Nothing (Refused why) before refl
    by (Ok home) e = let at = open_at s account origin home e in done set' s [] Nothing _ at.0 (account-effect set' s account home before (home_at s origin home before.housed at.1))

post-outcome : (set' : Tables) (s : State) (account class : List ℕ) (units : ℕ) → Before set' s → Outcome set' s [] Nothing (answered s (posted set' s account class units))
post-outcome set' s account class units before = by (post_place set' s account class units) refl
  where
    by : (r : Result (ℕ × ℕ) Refusal) → post_place set' s account class units ≡ r → Outcome set' s [] Nothing (answered s (r >>= (λ (at : ℕ × ℕ). Ok (put s at.0 (with_amount (account_at s.accounts at.0) class at.1)))))
    by (Err why) e = none set' s [] Nothing (Refused why) before refl
    by (Ok at) e = let there = post_open set' s account class units at e in done set' s [] Nothing _ there.open_day (amount-effect set' s at.0 at.1 class before (place-inside s account at.0 there.place))

draw-outcome : (set' : Tables) (s : State) (account class : List ℕ) (units : ℕ) → Before set' s → Outcome set' s [] Nothing (answered s (drawn set' s account class units))
draw-outcome set' s account class units before = by (draw_place set' s account class units) refl
  where
    by : (r : Result (ℕ × ℕ) Refusal) → draw_place set' s account class units ≡ r
        → Outcome set' s [] Nothing (answered s (r >>= (λ (at : ℕ × ℕ). if_room set' (account_at s.accounts at.0).unit (put s at.0 (with_amount (account_at s.accounts at.0) class at.1)))))
    by (Err why) e = none set' s [] Nothing (Refused why) before refl
    by (Ok at) e =
        let there = draw_open set' s account class units at e in
        let now = put s at.0 (with_amount (account_at s.accounts at.0) class at.1) in
        in_room set' s [] Nothing now (int_lt (unit_room set' now.accounts (account_at s.accounts at.0).unit) (pos 0)) before there.open_day (amount-effect set' s at.0 at.1 class before (place-inside s account at.0 there.place))

passed : (b : Bool) (u : Unit {0}) → refuse_if b Closed ≡ Ok u → b ≡ false
unfolding refuse_if
passed true u e = cc
passed false u e = refl

end-outcome : (set' : Tables) (s : State) → Before set' s → Outcome set' s [] Nothing (answered s (ended s))
end-outcome set' s before = by (refuse_if s.closed Closed) refl
  where
    by : (r : Result (Unit {0}) Refusal) → refuse_if s.closed Closed ≡ r → Outcome set' s [] Nothing (answered s (r >>= (λ (u : Unit {0}). Ok record s { closed = true })))
    by (Err why) e = none set' s [] Nothing (Refused why) before refl
    by (Ok u) e = done set' s [] Nothing _ (passed s.closed u e)
        (effect-kept set' s (record s { closed = true }) (omega arith) (λ M. keeps-same M s.accounts) record { accounts = before.housed.accounts; origins = before.housed.origins } before.known)

not_done-asked : (set' : Tables) (s : State) (r : Result ℕ Refusal) → is_done (figures_asked set' s r) ≡ false
not_done-asked set' s (Ok k) = refl
not_done-asked set' s (Err why) = refl

not_done-totalled : (set' : Tables) (s : State) (r : Result (ℕ × Option ℕ) Refusal) → is_done (totalled set' s r) ≡ false
not_done-totalled set' s (Ok home) = refl
not_done-totalled set' s (Err why) = refl

not_done-stated : (set' : Tables) (s : State) (r : Result ℕ Refusal) → is_done (stated set' s r) ≡ false
not_done-stated set' s (Ok k) = refl
not_done-stated set' s (Err why) = refl

-- any command
pub outcome : (set' : Tables) (s : State) (c : Command) → Before set' s → Outcome set' s (units_of s c) (plan_of set' s c) (step_under set' s c)
outcome set' s (asked.Trade t) before = trade-outcome set' s t before
outcome set' s (asked.Bust account lot) before = bust-outcome set' s account lot before
outcome set' s (asked.Hold h) before = hold-outcome set' s h before
outcome set' s (asked.Fill f) before = fill-outcome set' s f before
outcome set' s (asked.Release account order) before = release-outcome set' s account order before
outcome set' s (asked.Transfer m) before = move-outcome set' s m before
outcome set' s (asked.NewOrigin name mode) before = origin-outcome set' s name mode before
outcome set' s (asked.NewAccount account origin) before = account-outcome set' s account origin before
outcome set' s (asked.Post account class units) before = post-outcome set' s account class units before
outcome set' s (asked.Draw account class units) before = draw-outcome set' s account class units before
outcome set' s (asked.Ask account) before = none set' s [] Nothing _ before (not_done-asked set' s (place_of s account))
outcome set' s (asked.Total origin) before = none set' s [] Nothing _ before (not_done-totalled set' s (home_of s.origins origin))
outcome set' s (asked.Statement account) before = none set' s [] Nothing _ before (not_done-stated set' s (place_of s account))
outcome set' s asked.EndDay before = end-outcome set' s before
