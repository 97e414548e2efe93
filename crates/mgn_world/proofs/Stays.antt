-- Units and plans of commands stay while the accounts' units are left alone: for calls that hold them.
use Rattle.std.proofs.Common.{◌≡◌, ◌≢◌, ◌∙◌, ◌⊎◌, inl, inr, ⊎_elim, ℕ, Bool, true, false, List, [], ◌∷◌, sym, ap, subst, refl, Result, Ok, Err}
use Rattle.std.specs.Prelude.{◌==◌, ◌^◌, if◌then◌else◌, not, nat_lt, int_lt, pos, ◌+ℤ◌, unsigned_abs, neg_ℤ, ℤ}
use Rattle.mgn_params.specs.Tables.{Tables}
use Rattle.mgn_lots.specs.declared.lot.Lot.{Lot}
use Rattle.mgn_lots.specs.Lots.{has_number, is_busted, is_full, is_moved, lot_at, place_of_lot}
use Rattle.mgn_holds.specs.declared.held.Held.{Held}
use Rattle.mgn_holds.specs.Holds.{covers, has_order, hold_at, is_full as holds_full, meets_limit, place_of_order}
use Rattle.mgn_machine.specs.declared.command.Command.{Command}
use Rattle.mgn_machine.specs.declared.command.Command.TheVariants as asked
use Rattle.mgn_machine.specs.declared.command.Fill.{Fill}
use Rattle.mgn_machine.specs.declared.command.Hold.{Hold}
use Rattle.mgn_machine.specs.declared.command.Trade.{Trade}
use Rattle.mgn_machine.specs.declared.command.Transfer.{Transfer}
use Rattle.mgn_machine.specs.declared.reply.Refusal.{Refusal}
use Rattle.mgn_machine.specs.declared.reply.Refusal.TheVariants.{Closed, NoOrder, NoTrade}
use Rattle.mgn_machine.specs.Holding.{fill_places, hold_places, premium_fits_at, release_places}
use Rattle.mgn_machine.specs.Portfolios.{account_size, unit_sum}
use Rattle.mgn_machine.specs.Refusals.{◌>>=◌, bust_places, contract_of, found, is_over, place_of, refuse_if, trade_places}
use Rattle.mgn_machine.specs.State.{State, account_at}
use Rattle.mgn_machine.specs.Transfers.{move_places, parties, quantity_in_unit}
use Rattle.mgn_unit.specs.Changes.{bust_change, fill_change, hold_change, lot_change, moved_change, release_change}
use Rattle.mgn_plan.specs.declared.plans.Plan.TheVariants.{Nothing, One, Two}
use Rattle.mgn_plan.specs.declared.plans.UnitChange.{UnitChange}
use Rattle.mgn_plan.specs.Plans.{both_plan, bust_plan, bust_plan_at, fill_plan, fill_plan_at, hold_plan, move_plan, plan_of, release_plan, release_plan_at, trade_plan}
use Rattle.mgn_world.specs.Claims.{IsAmong, before_close}
use Rattle.mgn_world.specs.World.{in_order, plan_units, unit_found, units_found, units_of}
use Rattle.mgn_world.proofs.Places.{bust_at, fill_at, hold_takes, move_at, parties_at, release_at, trade_at}
use Rattle.mgn_world.proofs.Twins.{Keeps, account-kept, place-kept, size-counts, sum-kept}

-- Chains of refusals that read the same.

chain_same : {A B : Type 0} (r r' : Result A Refusal) (f f' : A → Result B Refusal) → r' ≡ r → ((x : A) → r ≡ Ok x → f' x ≡ f x) → r' >>= f' ≡ r >>= f
chain_same {A = A} (Ok x) r' f f' e each = ap (λ (z : Result A Refusal). z >>= f') e ∙ each x refl
chain_same {A = A} (Err why) r' f f' e each = ap (λ (z : Result A Refusal). z >>= f') e

chain_rest : {A B : Type 0} (r : Result A Refusal) (f f' : A → Result B Refusal) → ((x : A) → r ≡ Ok x → f' x ≡ f x) → r >>= f' ≡ r >>= f
chain_rest r f f' each = chain_same r r f f' refl each

test_rest : {B : Type 0} (b : Bool) (why : Refusal) (f f' : Unit {0} → Result B Refusal) → f' tt ≡ f tt → refuse_if b why >>= f' ≡ refuse_if b why >>= f
unfolding refuse_if
test_rest true why f f' rest = refl
test_rest false why f f' rest = rest

test_same : {B : Type 0} (b b' : Bool) (why : Refusal) (f f' : Unit {0} → Result B Refusal) → b' ≡ b → f' tt ≡ f tt → refuse_if b' why >>= f' ≡ refuse_if b why >>= f
test_same b b' why f f' e rest = ap (λ (z : Bool). refuse_if z why >>= f') e ∙ test_rest b why f f' rest

-- in a day that is over
closed_first : {B : Type 0} (b : Bool) (f : Unit {0} → Result B Refusal) → b ≡ true → refuse_if b Closed >>= f ≡ Err Closed
unfolding refuse_if
closed_first true f e = refl
closed_first false f e = cc

-- Accounts of a name in two states.

-- an account that counts for the same in both
record Alike (s t : State) (k : ℕ) : Type 0 where
  lots : (account_at t.accounts k).lots ≡ (account_at s.accounts k).lots
  holds : (account_at t.accounts k).holds ≡ (account_at s.accounts k).holds
  origin : (account_at t.accounts k).origin ≡ (account_at s.accounts k).origin
  unit : (account_at t.accounts k).unit ≡ (account_at s.accounts k).unit
  sizes : (c : List ℕ) → unit_sum (account_at t.accounts k).unit (account_size c) t.accounts ≡ unit_sum (account_at s.accounts k).unit (account_size c) s.accounts

record Stays (s t : State) (name : List ℕ) : Type 0 where
  place : place_of t name ≡ place_of s name
  alike : (k : ℕ) → place_of s name ≡ Ok k → Alike s t k

alike : (M : ℕ → Type 0) (s t : State) (name : List ℕ) (k : ℕ) → Keeps M s.accounts t.accounts → place_of s name ≡ Ok k → M (account_at s.accounts k).unit → Alike s t k
alike M s t name k keeps here alone =
    let twin = account-kept M s t name k keeps here in
    record {
      lots = twin.lots alone;
      holds = twin.holds alone;
      origin = twin.origin;
      unit = twin.unit;
      sizes = λ c. ap (λ (u : ℕ). unit_sum u (account_size c) t.accounts) twin.unit
          ∙ sum-kept M (account_at s.accounts k).unit (account_size c) s.accounts t.accounts (size-counts c) alone keeps;
    }

same_ok : (r : Result ℕ Refusal) (i k : ℕ) → r ≡ Ok i → r ≡ Ok k → k ≡ i
same_ok r i k a b = cc

stays : (M : ℕ → Type 0) (s t : State) (name : List ℕ) (k : ℕ) → Keeps M s.accounts t.accounts → place_of s name ≡ Ok k → M (account_at s.accounts k).unit → Stays s t name
stays M s t name k keeps here alone = record {
  place = place-kept M s t name k keeps here ∙ sym here;
  alike = λ i there. alike M s t name i keeps there (subst (λ (n : ℕ). M (account_at s.accounts n).unit) (same_ok _ i k there here) alone);
}

over_same : (s t : State) (k : ℕ) (c : List ℕ) (q : ℤ) → Alike s t k → is_over t k c q ≡ is_over s k c q
over_same s t k c q a = ap (λ (z : ℤ). int_lt (pos (10 ^ 7)) (z +ℤ pos (unsigned_abs q))) (a.sizes c)

-- Where commands take place.

trade_stays : (set' : Tables) (s t : State) (x : Trade) → t.closed ≡ s.closed → Stays s t x.account → trade_places set' t x ≡ trade_places set' s x
unfolding trade_places
trade_stays set' s t x closed on =
    test_same _ _ _ _ _ closed (chain_same _ _ _ _ on.place (λ k here.
    let a = on.alike k here in
    test_same _ _ _ _ _ (ap (λ (lots : List Lot). has_number lots x.lot) a.lots) (chain_rest (contract_of set' x.contract) _ _ (λ i there.
    test_rest _ _ _ _ (test_same _ _ _ _ _ (ap is_full a.lots) (test_same _ _ _ _ _ (over_same s t k x.contract x.quantity a) refl))))))

bust_stays : (s t : State) (name : List ℕ) (lot : ℕ) → t.closed ≡ s.closed → Stays s t name → bust_places t name lot ≡ bust_places s name lot
unfolding bust_places
bust_stays s t name lot closed on =
    test_same _ _ _ _ _ closed (chain_same _ _ _ _ on.place (λ k here.
    let a = on.alike k here in
    chain_same _ _ _ _ (ap (λ (lots : List Lot). found (place_of_lot lots lot) NoTrade) a.lots) (λ i there.
    test_same _ _ _ _ _ (ap (λ (lots : List Lot). is_busted (lot_at lots i).mark) a.lots) (test_same _ _ _ _ _ (ap (λ (lots : List Lot). is_moved (lot_at lots i).mark) a.lots) refl))))

hold_stays : (set' : Tables) (s t : State) (h : Hold) → t.closed ≡ s.closed → Stays s t h.account → hold_places set' t h ≡ hold_places set' s h
unfolding hold_places
hold_stays set' s t h closed on =
    test_same _ _ _ _ _ closed (chain_same _ _ _ _ on.place (λ k here.
    let a = on.alike k here in
    test_same _ _ _ _ _ (ap (λ (holds : List Held). has_order holds h.order) a.holds) (chain_rest (contract_of set' h.contract) _ _ (λ i there.
    test_rest _ _ _ _ (test_same _ _ _ _ _ (ap holds_full a.holds) (test_same _ _ _ _ _ (over_same s t k h.contract h.quantity a) refl))))))

fill_stays : (set' : Tables) (s t : State) (f : Fill) → t.closed ≡ s.closed → Stays s t f.account → fill_places set' t f ≡ fill_places set' s f
unfolding fill_places
fill_stays set' s t f closed on =
    test_same _ _ _ _ _ closed (chain_same _ _ _ _ on.place (λ k here.
    let a = on.alike k here in
    test_same _ _ _ _ _ (ap (λ (lots : List Lot). has_number lots f.lot) a.lots) (chain_same _ _ _ _ (ap (λ (holds : List Held). found (place_of_order holds f.order) NoOrder) a.holds) (λ j there.
    test_same _ _ _ _ _ (ap (λ (holds : List Held). not (meets_limit (hold_at holds j) f.premium)) a.holds)
    (test_same _ _ _ _ _ (ap (λ (holds : List Held). not (premium_fits_at set' (contract_of set' (hold_at holds j).contract) f.premium)) a.holds)
    (test_same _ _ _ _ _ (ap (λ (holds : List Held). not (covers (hold_at holds j) f.quantity)) a.holds)
    (test_same _ _ _ _ _ (ap is_full a.lots) refl)))))))

release_stays : (s t : State) (name : List ℕ) (order : ℕ) → t.closed ≡ s.closed → Stays s t name → release_places t name order ≡ release_places s name order
unfolding release_places
release_stays s t name order closed on =
    test_same _ _ _ _ _ closed (chain_same _ _ _ _ on.place (λ k here.
    let a = on.alike k here in
    chain_same _ _ _ _ (ap (λ (holds : List Held). found (place_of_order holds order) NoOrder) a.holds) (λ j there. refl)))

parties_stay : (s t : State) (m : Transfer) → t.closed ≡ s.closed → Stays s t m.from → Stays s t m.to → parties t m ≡ parties s m
unfolding parties
parties_stay s t m closed from to =
    test_same _ _ _ _ _ closed (chain_same _ _ _ _ from.place (λ g here. chain_same _ _ _ _ to.place (λ k there.
    let a = from.alike g here in
    let b = to.alike k there in
    test_same _ _ _ _ _ (ap (λ (lots : List Lot). has_number lots m.lot) a.lots) (test_same _ _ _ _ _ (ap (λ (lots : List Lot). has_number lots m.lot) b.lots) refl))))

in_unit_same : (s t : State) (g k : ℕ) (q : ℤ) → Alike s t g → Alike s t k → quantity_in_unit t g k q ≡ quantity_in_unit s g k q
in_unit_same s t g k q a b = λ j. if a.unit j == b.unit j then q +ℤ q else q

move_stays : (set' : Tables) (s t : State) (m : Transfer) → t.closed ≡ s.closed → Stays s t m.from → Stays s t m.to → move_places set' t m ≡ move_places set' s m
unfolding move_places
move_stays set' s t m closed from to =
    chain_same _ _ _ _ (parties_stay s t m closed from to) (λ at here. chain_rest (contract_of set' m.contract) _ _ (λ i there.
    let both = parties_at s m at here in
    let a = from.alike at.0 both.0.place in
    let b = to.alike at.1 both.1.place in
    let q = in_unit_same s t at.0 at.1 m.quantity a b in
    test_same _ _ _ _ _ (λ j. not (a.origin j == b.origin j))
    (test_same _ _ _ _ _ (ap is_full a.lots) (test_same _ _ _ _ _ (ap is_full b.lots)
    (test_same _ _ _ _ _ (ap (is_over t at.0 m.contract) q ∙ over_same s t at.0 m.contract (quantity_in_unit s at.0 at.1 m.quantity) a)
    (test_same _ _ _ _ _ (ap (is_over t at.1 m.contract) q ∙ over_same s t at.1 m.contract (quantity_in_unit s at.0 at.1 m.quantity) b) refl))))))

-- Plans.

trade_plan_stays : (set' : Tables) (s t : State) (x : Trade) → t.closed ≡ s.closed → Stays s t x.account → trade_plan t x (trade_places set' t x) ≡ trade_plan s x (trade_places set' s x)
trade_plan_stays set' s t x closed on = ap (trade_plan t x) (trade_stays set' s t x closed on) ∙ by (trade_places set' s x) refl
  where
    by : (r : Result (ℕ × ℕ) Refusal) → trade_places set' s x ≡ r → trade_plan t x r ≡ trade_plan s x r
    by (Ok at) e = let a = on.alike at.0 (trade_at set' s x at e).0.place in λ j. One record { account = at.0; unit = a.unit j; change = lot_change at.1 x.quantity x.premium }
    by (Err why) e = refl

bust_plan_stays : (set' : Tables) (s t : State) (name : List ℕ) (lot : ℕ) → t.closed ≡ s.closed → Stays s t name → bust_plan set' t (bust_places t name lot) ≡ bust_plan set' s (bust_places s name lot)
bust_plan_stays set' s t name lot closed on = ap (bust_plan set' t) (bust_stays s t name lot closed on) ∙ by (bust_places s name lot) refl
  where
    same : (k : ℕ) (x : Lot) (r : Result ℕ Refusal) → (account_at t.accounts k).unit ≡ (account_at s.accounts k).unit → bust_plan_at t k x r ≡ bust_plan_at s k x r
    same k x (Ok i) unit = λ j. One record { account = k; unit = unit j; change = bust_change i x }
    same k x (Err why) unit = refl

    by : (r : Result (ℕ × ℕ) Refusal) → bust_places s name lot ≡ r → bust_plan set' t r ≡ bust_plan set' s r
    by (Ok at) e =
        let a = on.alike at.0 (bust_at set' s name lot at e).0.place in
        ap (λ (lots : List Lot). bust_plan_at t at.0 (lot_at lots at.1) (contract_of set' (lot_at lots at.1).contract)) a.lots
        ∙ same at.0 (lot_at (account_at s.accounts at.0).lots at.1) _ a.unit
    by (Err why) e = refl

hold_plan_stays : (set' : Tables) (s t : State) (h : Hold) → t.closed ≡ s.closed → Stays s t h.account → hold_plan t h (hold_places set' t h) ≡ hold_plan s h (hold_places set' s h)
hold_plan_stays set' s t h closed on = ap (hold_plan t h) (hold_stays set' s t h closed on) ∙ by (hold_places set' s h) refl
  where
    by : (r : Result (ℕ × ℕ) Refusal) → hold_places set' s h ≡ r → hold_plan t h r ≡ hold_plan s h r
    by (Ok at) e = let a = on.alike at.0 (hold_takes set' s h at e).0.place in λ j. One record { account = at.0; unit = a.unit j; change = hold_change at.1 h.quantity h.limit }
    by (Err why) e = refl

fill_plan_stays : (set' : Tables) (s t : State) (f : Fill) → t.closed ≡ s.closed → Stays s t f.account → fill_plan set' t f (fill_places set' t f) ≡ fill_plan set' s f (fill_places set' s f)
fill_plan_stays set' s t f closed on = ap (fill_plan set' t f) (fill_stays set' s t f closed on) ∙ by (fill_places set' s f) refl
  where
    same : (k : ℕ) (x : Held) (r : Result ℕ Refusal) → (account_at t.accounts k).unit ≡ (account_at s.accounts k).unit → fill_plan_at t k x f r ≡ fill_plan_at s k x f r
    same k x (Ok i) unit = λ j. One record { account = k; unit = unit j; change = fill_change i f.quantity x.limit f.premium }
    same k x (Err why) unit = refl

    by : (r : Result (ℕ × ℕ) Refusal) → fill_places set' s f ≡ r → fill_plan set' t f r ≡ fill_plan set' s f r
    by (Ok at) e =
        let a = on.alike at.0 (fill_at set' s f at e).0.place in
        ap (λ (holds : List Held). fill_plan_at t at.0 (hold_at holds at.1) f (contract_of set' (hold_at holds at.1).contract)) a.holds
        ∙ same at.0 (hold_at (account_at s.accounts at.0).holds at.1) _ a.unit
    by (Err why) e = refl

release_plan_stays : (set' : Tables) (s t : State) (name : List ℕ) (order : ℕ) → t.closed ≡ s.closed → Stays s t name → release_plan set' t (release_places t name order) ≡ release_plan set' s (release_places s name order)
release_plan_stays set' s t name order closed on = ap (release_plan set' t) (release_stays s t name order closed on) ∙ by (release_places s name order) refl
  where
    same : (k : ℕ) (x : Held) (r : Result ℕ Refusal) → (account_at t.accounts k).unit ≡ (account_at s.accounts k).unit → release_plan_at t k x r ≡ release_plan_at s k x r
    same k x (Ok i) unit = λ j. One record { account = k; unit = unit j; change = release_change i x.quantity x.limit }
    same k x (Err why) unit = refl

    by : (r : Result (ℕ × ℕ) Refusal) → release_places s name order ≡ r → release_plan set' t r ≡ release_plan set' s r
    by (Ok at) e =
        let a = on.alike at.0 (release_at s name order at e).0.place in
        ap (λ (holds : List Held). release_plan_at t at.0 (hold_at holds at.1) (contract_of set' (hold_at holds at.1).contract)) a.holds
        ∙ same at.0 (hold_at (account_at s.accounts at.0).holds at.1) _ a.unit
    by (Err why) e = refl

move_plan_stays : (set' : Tables) (s t : State) (m : Transfer) → t.closed ≡ s.closed → Stays s t m.from → Stays s t m.to → move_plan t m (move_places set' t m) ≡ move_plan s m (move_places set' s m)
move_plan_stays set' s t m closed from to = ap (move_plan t m) (move_stays set' s t m closed from to) ∙ by (move_places set' s m) refl
  where
    by : (r : Result (ℕ × ℕ × ℕ) Refusal) → move_places set' s m ≡ r → move_plan t m r ≡ move_plan s m r
    by (Ok (g, k, i)) e =
        let there = move_at set' s m (g, k, i) e in
        let a = from.alike g there.0.place in
        let b = to.alike k there.1.place in
        λ j. both_plan record { account = g; unit = a.unit j; change = moved_change i (neg_ℤ m.quantity) } record { account = k; unit = b.unit j; change = moved_change i m.quantity }
    by (Err why) e = refl

-- The units of a command.

-- the account is there
one_found : (s : State) (r : Result ℕ Refusal) → unit_found s r ≢ [] → (k : ℕ) × ((r ≡ Ok k) × (unit_found s r ≡ (account_at s.accounts k).unit ∷ []))
one_found s (Ok k) some = (k, (refl, refl))
one_found s (Err why) some = absurd (some refl)

both_found : (s : State) (a b : Result ℕ Refusal) → units_found s a b ≢ []
    → (g : ℕ) × ((k : ℕ) × ((a ≡ Ok g) × ((b ≡ Ok k) × (units_found s a b ≡ (account_at s.accounts g).unit ∷ (account_at s.accounts k).unit ∷ []))))
both_found s (Ok g) (Ok k) some = (g, (k, (refl, (refl, refl))))
both_found s (Ok g) (Err why) some = absurd (some refl)
both_found s (Err why) b some = absurd (some refl)

one_stays : (M : ℕ → Type 0) (s t : State) (name : List ℕ) → Keeps M s.accounts t.accounts → unit_found s (place_of s name) ≢ [] → unit_found t (place_of t name) ≡ unit_found s (place_of s name)
one_stays M s t name keeps some =
    let k = one_found s (place_of s name) some in
    ap (unit_found t) (place-kept M s t name k.0 keeps k.1.0) ∙ ap (λ (u : ℕ). u ∷ []) (account-kept M s t name k.0 keeps k.1.0).unit ∙ sym k.1.1

both_stay : (M : ℕ → Type 0) (s t : State) (from to : List ℕ) → Keeps M s.accounts t.accounts → units_found s (place_of s from) (place_of s to) ≢ []
    → units_found t (place_of t from) (place_of t to) ≡ units_found s (place_of s from) (place_of s to)
both_stay M s t from to keeps some =
    let g = both_found s (place_of s from) (place_of s to) some in
    let a = place-kept M s t from g.0 keeps g.1.1.0 in
    let b = place-kept M s t to g.1.0 keeps g.1.1.1.0 in
    let x = (account-kept M s t from g.0 keeps g.1.1.0).unit in
    let y = (account-kept M s t to g.1.0 keeps g.1.1.1.0).unit in
    (λ j. units_found t (a j) (b j)) ∙ (λ j. x j ∷ y j ∷ []) ∙ sym g.1.1.1.1

-- the units of a command stay, where it has some
pub units_stay : (M : ℕ → Type 0) (s t : State) (c : Command) → Keeps M s.accounts t.accounts → units_of s c ≢ [] → units_of t c ≡ units_of s c
units_stay M s t (asked.Trade x) keeps some = one_stays M s t x.account keeps some
units_stay M s t (asked.Bust account lot) keeps some = one_stays M s t account keeps some
units_stay M s t (asked.Hold h) keeps some = one_stays M s t h.account keeps some
units_stay M s t (asked.Fill f) keeps some = one_stays M s t f.account keeps some
units_stay M s t (asked.Release account order) keeps some = one_stays M s t account keeps some
units_stay M s t (asked.Transfer m) keeps some = both_stay M s t m.from m.to keeps some
units_stay M s t (asked.NewOrigin name mode) keeps some = refl
units_stay M s t (asked.NewAccount account origin) keeps some = refl
units_stay M s t (asked.Post account class units) keeps some = refl
units_stay M s t (asked.Draw account class units) keeps some = refl
units_stay M s t (asked.Ask account) keeps some = refl
units_stay M s t (asked.Total origin) keeps some = refl
units_stay M s t (asked.Statement account) keeps some = refl
units_stay M s t asked.EndDay keeps some = refl

stays_one : (M : ℕ → Type 0) (s t : State) (name : List ℕ) → Keeps M s.accounts t.accounts → unit_found s (place_of s name) ≢ [] → ((u : ℕ) → IsAmong u (unit_found s (place_of s name)) → M u) → Stays s t name
stays_one M s t name keeps some alone =
    let k = one_found s (place_of s name) some in
    stays M s t name k.0 keeps k.1.0 (alone _ (subst (IsAmong (account_at s.accounts k.0).unit) (sym k.1.1) (inl refl)))

stays_both : (M : ℕ → Type 0) (s t : State) (from to : List ℕ) → Keeps M s.accounts t.accounts → units_found s (place_of s from) (place_of s to) ≢ [] → ((u : ℕ) → IsAmong u (units_found s (place_of s from) (place_of s to)) → M u) → Stays s t from × Stays s t to
stays_both M s t from to keeps some alone =
    let g = both_found s (place_of s from) (place_of s to) some in (
      stays M s t from g.0 keeps g.1.1.0 (alone _ (subst (IsAmong (account_at s.accounts g.0).unit) (sym g.1.1.1.1) (inl refl))),
      stays M s t to g.1.0 keeps g.1.1.1.0 (alone _ (subst (IsAmong (account_at s.accounts g.1.0).unit) (sym g.1.1.1.1) (inr (inl refl)))),
    )

-- what a command changes stays, while its units are left alone
pub plan_stays : (M : ℕ → Type 0) (set' : Tables) (s t : State) (c : Command) → t.closed ≡ s.closed → Keeps M s.accounts t.accounts → units_of s c ≢ [] → ((u : ℕ) → IsAmong u (units_of s c) → M u) → plan_of set' t c ≡ plan_of set' s c
plan_stays M set' s t (asked.Trade x) closed keeps some alone = trade_plan_stays set' s t x closed (stays_one M s t x.account keeps some alone)
plan_stays M set' s t (asked.Bust account lot) closed keeps some alone = bust_plan_stays set' s t account lot closed (stays_one M s t account keeps some alone)
plan_stays M set' s t (asked.Hold h) closed keeps some alone = hold_plan_stays set' s t h closed (stays_one M s t h.account keeps some alone)
plan_stays M set' s t (asked.Fill f) closed keeps some alone = fill_plan_stays set' s t f closed (stays_one M s t f.account keeps some alone)
plan_stays M set' s t (asked.Release account order) closed keeps some alone = release_plan_stays set' s t account order closed (stays_one M s t account keeps some alone)
plan_stays M set' s t (asked.Transfer m) closed keeps some alone = let both = stays_both M s t m.from m.to keeps some alone in move_plan_stays set' s t m closed both.0 both.1
plan_stays M set' s t (asked.NewOrigin name mode) closed keeps some alone = refl
plan_stays M set' s t (asked.NewAccount account origin) closed keeps some alone = refl
plan_stays M set' s t (asked.Post account class units) closed keeps some alone = refl
plan_stays M set' s t (asked.Draw account class units) closed keeps some alone = refl
plan_stays M set' s t (asked.Ask account) closed keeps some alone = refl
plan_stays M set' s t (asked.Total origin) closed keeps some alone = refl
plan_stays M set' s t (asked.Statement account) closed keeps some alone = refl
plan_stays M set' s t asked.EndDay closed keeps some alone = refl

-- The units of a plan are those of its command.

pub record SameUnits (us vs : List ℕ) : Type 0 where
  pub into : (u : ℕ) → IsAmong u us → IsAmong u vs
  pub back : (u : ℕ) → IsAmong u vs → IsAmong u us

same_units : (us vs : List ℕ) → us ≡ vs → SameUnits us vs
same_units us vs e = record { into = λ u h. subst (IsAmong u) e h; back = λ u h. subst (IsAmong u) (sym e) h }

one_units : (s : State) (name : List ℕ) (k : ℕ) → place_of s name ≡ Ok k → SameUnits ((account_at s.accounts k).unit ∷ []) (unit_found s (place_of s name))
one_units s name k here = same_units _ _ (sym (ap (unit_found s) here))

swapped : (b : Bool) (u v w : ℕ) → IsAmong w (if b then v ∷ u ∷ [] else u ∷ v ∷ []) → IsAmong w (u ∷ v ∷ [])
swapped true u v w h = ⊎_elim (λ (e : w ≡ v). inr (inl e)) (λ (r : IsAmong w (u ∷ [])). ⊎_elim (λ (e : w ≡ u). inl e) (λ (n : ⊥). absurd n) r) h
swapped false u v w h = h

swapped_back : (b : Bool) (u v w : ℕ) → IsAmong w (u ∷ v ∷ []) → IsAmong w (if b then v ∷ u ∷ [] else u ∷ v ∷ [])
swapped_back true u v w h = ⊎_elim (λ (e : w ≡ u). inr (inl e)) (λ (r : IsAmong w (v ∷ [])). ⊎_elim (λ (e : w ≡ v). inl e) (λ (n : ⊥). absurd n) r) h
swapped_back false u v w h = h

two_units : (s : State) (m : Transfer) (g k : ℕ) → place_of s m.from ≡ Ok g → place_of s m.to ≡ Ok k
    → SameUnits (in_order (account_at s.accounts g).unit (account_at s.accounts k).unit) (units_found s (place_of s m.from) (place_of s m.to))
two_units s m g k from to =
    let e : units_found s (place_of s m.from) (place_of s m.to) ≡ (account_at s.accounts g).unit ∷ (account_at s.accounts k).unit ∷ [] = λ j. units_found s (from j) (to j) in
    record {
      into = λ w h. subst (IsAmong w) (sym e) (swapped (nat_lt (account_at s.accounts k).unit (account_at s.accounts g).unit) _ _ w h);
      back = λ w h. swapped_back (nat_lt (account_at s.accounts k).unit (account_at s.accounts g).unit) _ _ w (subst (IsAmong w) e h);
    }

pub plan_units-are : (set' : Tables) (s : State) (c : Command) → plan_of set' s c ≢ Nothing → SameUnits (plan_units (plan_of set' s c)) (units_of s c)
plan_units-are set' s (asked.Trade x) some = by (trade_places set' s x) refl some
  where
    by : (r : Result (ℕ × ℕ) Refusal) → trade_places set' s x ≡ r → trade_plan s x r ≢ Nothing → SameUnits (plan_units (trade_plan s x r)) (unit_found s (place_of s x.account))
    by (Ok at) e some = one_units s x.account at.0 (trade_at set' s x at e).0.place
    by (Err why) e some = absurd (some refl)
plan_units-are set' s (asked.Bust account lot) some = by (bust_places s account lot) refl some
  where
    at_lot : (k : ℕ) (x : Lot) (r : Result ℕ Refusal) → place_of s account ≡ Ok k → bust_plan_at s k x r ≢ Nothing → SameUnits (plan_units (bust_plan_at s k x r)) (unit_found s (place_of s account))
    at_lot k x (Ok i) here some = one_units s account k here
    at_lot k x (Err why) here some = absurd (some refl)

    by : (r : Result (ℕ × ℕ) Refusal) → bust_places s account lot ≡ r → bust_plan set' s r ≢ Nothing → SameUnits (plan_units (bust_plan set' s r)) (unit_found s (place_of s account))
    by (Ok at) e some = at_lot at.0 (lot_at (account_at s.accounts at.0).lots at.1) _ (bust_at set' s account lot at e).0.place some
    by (Err why) e some = absurd (some refl)
plan_units-are set' s (asked.Hold h) some = by (hold_places set' s h) refl some
  where
    by : (r : Result (ℕ × ℕ) Refusal) → hold_places set' s h ≡ r → hold_plan s h r ≢ Nothing → SameUnits (plan_units (hold_plan s h r)) (unit_found s (place_of s h.account))
    by (Ok at) e some = one_units s h.account at.0 (hold_takes set' s h at e).0.place
    by (Err why) e some = absurd (some refl)
plan_units-are set' s (asked.Fill f) some = by (fill_places set' s f) refl some
  where
    at_hold : (k : ℕ) (x : Held) (r : Result ℕ Refusal) → place_of s f.account ≡ Ok k → fill_plan_at s k x f r ≢ Nothing → SameUnits (plan_units (fill_plan_at s k x f r)) (unit_found s (place_of s f.account))
    at_hold k x (Ok i) here some = one_units s f.account k here
    at_hold k x (Err why) here some = absurd (some refl)

    by : (r : Result (ℕ × ℕ) Refusal) → fill_places set' s f ≡ r → fill_plan set' s f r ≢ Nothing → SameUnits (plan_units (fill_plan set' s f r)) (unit_found s (place_of s f.account))
    by (Ok at) e some = at_hold at.0 (hold_at (account_at s.accounts at.0).holds at.1) _ (fill_at set' s f at e).0.place some
    by (Err why) e some = absurd (some refl)
plan_units-are set' s (asked.Release account order) some = by (release_places s account order) refl some
  where
    at_hold : (k : ℕ) (x : Held) (r : Result ℕ Refusal) → place_of s account ≡ Ok k → release_plan_at s k x r ≢ Nothing → SameUnits (plan_units (release_plan_at s k x r)) (unit_found s (place_of s account))
    at_hold k x (Ok i) here some = one_units s account k here
    at_hold k x (Err why) here some = absurd (some refl)

    by : (r : Result (ℕ × ℕ) Refusal) → release_places s account order ≡ r → release_plan set' s r ≢ Nothing → SameUnits (plan_units (release_plan set' s r)) (unit_found s (place_of s account))
    by (Ok at) e some = at_hold at.0 (hold_at (account_at s.accounts at.0).holds at.1) _ (release_at s account order at e).0.place some
    by (Err why) e some = absurd (some refl)
plan_units-are set' s (asked.Transfer m) some = by (move_places set' s m) refl some
  where
    across : (g k : ℕ) (u v : UnitChange) (b : Bool) → place_of s m.from ≡ Ok g → place_of s m.to ≡ Ok k → u.unit ≡ (account_at s.accounts g).unit → v.unit ≡ (account_at s.accounts k).unit
        → (if b then Nothing else Two u v) ≢ Nothing → SameUnits (plan_units (if b then Nothing else Two u v)) (units_found s (place_of s m.from) (place_of s m.to))
    across g k u v true from to a b some = absurd (some refl)
    across g k u v false from to a b some = subst (λ (x : ℕ × ℕ). SameUnits (in_order x.0 x.1) (units_found s (place_of s m.from) (place_of s m.to))) (λ j. (sym a j, sym b j)) (two_units s m g k from to)

    by : (r : Result (ℕ × ℕ × ℕ) Refusal) → move_places set' s m ≡ r → move_plan s m r ≢ Nothing → SameUnits (plan_units (move_plan s m r)) (units_found s (place_of s m.from) (place_of s m.to))
    by (Ok (g, k, i)) e some = let there = move_at set' s m (g, k, i) e in across g k _ _ ((account_at s.accounts g).unit == (account_at s.accounts k).unit) there.0.place there.1.place refl refl some
    by (Err why) e some = absurd (some refl)
plan_units-are set' s (asked.NewOrigin name mode) some = absurd (some refl)
plan_units-are set' s (asked.NewAccount account origin) some = absurd (some refl)
plan_units-are set' s (asked.Post account class units) some = absurd (some refl)
plan_units-are set' s (asked.Draw account class units) some = absurd (some refl)
plan_units-are set' s (asked.Ask account) some = absurd (some refl)
plan_units-are set' s (asked.Total origin) some = absurd (some refl)
plan_units-are set' s (asked.Statement account) some = absurd (some refl)
plan_units-are set' s asked.EndDay some = absurd (some refl)

-- The end of the day.

pub units_before : (s : State) (c : Command) → units_of (before_close s) c ≡ units_of s c
unfolding place_of
units_before s (asked.Trade x) = refl
units_before s (asked.Bust account lot) = refl
units_before s (asked.Hold h) = refl
units_before s (asked.Fill f) = refl
units_before s (asked.Release account order) = refl
units_before s (asked.Transfer m) = refl
units_before s (asked.NewOrigin name mode) = refl
units_before s (asked.NewAccount account origin) = refl
units_before s (asked.Post account class units) = refl
units_before s (asked.Draw account class units) = refl
units_before s (asked.Ask account) = refl
units_before s (asked.Total origin) = refl
units_before s (asked.Statement account) = refl
units_before s asked.EndDay = refl

trade_over : (set' : Tables) (s : State) (x : Trade) → s.closed ≡ true → trade_places set' s x ≡ Err Closed
unfolding trade_places
trade_over set' s x over = closed_first _ _ over

bust_over : (s : State) (name : List ℕ) (lot : ℕ) → s.closed ≡ true → bust_places s name lot ≡ Err Closed
unfolding bust_places
bust_over s name lot over = closed_first _ _ over

hold_over : (set' : Tables) (s : State) (h : Hold) → s.closed ≡ true → hold_places set' s h ≡ Err Closed
unfolding hold_places
hold_over set' s h over = closed_first _ _ over

fill_over : (set' : Tables) (s : State) (f : Fill) → s.closed ≡ true → fill_places set' s f ≡ Err Closed
unfolding fill_places
fill_over set' s f over = closed_first _ _ over

release_over : (s : State) (name : List ℕ) (order : ℕ) → s.closed ≡ true → release_places s name order ≡ Err Closed
unfolding release_places
release_over s name order over = closed_first _ _ over

parties_over : (s : State) (m : Transfer) → s.closed ≡ true → parties s m ≡ Err Closed
unfolding parties
parties_over s m over = closed_first _ _ over

refused_first : {A B : Type 0} (r : Result A Refusal) (f : A → Result B Refusal) (why : Refusal) → r ≡ Err why → r >>= f ≡ Err why
refused_first {A = A} r f why e = ap (λ (z : Result A Refusal). z >>= f) e

move_over : (set' : Tables) (s : State) (m : Transfer) → s.closed ≡ true → move_places set' s m ≡ Err Closed
unfolding move_places
move_over set' s m over = refused_first _ _ Closed (parties_over s m over)

-- after it no command changes a portfolio
pub plan_over : (set' : Tables) (s : State) (c : Command) → s.closed ≡ true → plan_of set' s c ≡ Nothing
plan_over set' s (asked.Trade x) over = ap (trade_plan s x) (trade_over set' s x over)
plan_over set' s (asked.Bust account lot) over = ap (bust_plan set' s) (bust_over s account lot over)
plan_over set' s (asked.Hold h) over = ap (hold_plan s h) (hold_over set' s h over)
plan_over set' s (asked.Fill f) over = ap (fill_plan set' s f) (fill_over set' s f over)
plan_over set' s (asked.Release account order) over = ap (release_plan set' s) (release_over s account order over)
plan_over set' s (asked.Transfer m) over = ap (move_plan s m) (move_over set' s m over)
plan_over set' s (asked.NewOrigin name mode) over = refl
plan_over set' s (asked.NewAccount account origin) over = refl
plan_over set' s (asked.Post account class units) over = refl
plan_over set' s (asked.Draw account class units) over = refl
plan_over set' s (asked.Ask account) over = refl
plan_over set' s (asked.Total origin) over = refl
plan_over set' s (asked.Statement account) over = refl
plan_over set' s asked.EndDay over = refl

-- what a command changes is what it changes before the end of the day, or nothing
pub plan_now : (set' : Tables) (s : State) (c : Command) → (plan_of set' s c ≡ plan_of set' (before_close s) c) ⊎ (plan_of set' s c ≡ Nothing)
plan_now set' s c = by s.closed refl
  where
    by : (b : Bool) → s.closed ≡ b → (plan_of set' s c ≡ plan_of set' (before_close s) c) ⊎ (plan_of set' s c ≡ Nothing)
    by true e = inr (plan_over set' s c e)
    by false e = inl (ap (λ (b : Bool). plan_of set' (record s { closed = b }) c) e)

pub plan_open : (set' : Tables) (s : State) (c : Command) → s.closed ≡ false → plan_of set' s c ≡ plan_of set' (before_close s) c
plan_open set' s c e = ap (λ (b : Bool). plan_of set' (record s { closed = b }) c) e
