-- What is known where nothing but want of room refuses a command, and what a plan tells of it.
use Rattle.std.proofs.Common.{◌≡◌, ◌≢◌, ◌<◌, ◌==◌, ℕ, if◌then◌else◌, Bool, true, false, List, [], length, subst, sym, ap, ◌∙◌, refl, arith, Result, Ok, Err}
use Rattle.std.specs.Prelude.{neg_ℤ}
use Rattle.std.specs.Str.{bytes_eq}
use Rattle.std.proofs.lemmas.Bool.{not-false}
use Rattle.std.proofs.lemmas.Bool.Decides.{nat_tests}
use Rattle.std.proofs.lemmas.List.{length-map}
use Rattle.std.proofs.lemmas.List.Quantifiers.{position-Some}
use Rattle.mgn_params.specs.Limits.{contract_names}
use Rattle.mgn_params.specs.Tables.{Tables}
use Rattle.mgn_params.specs.declared.tables.Contract.{Contract}
use Rattle.mgn_lots.specs.declared.lot.Lot.{Lot}
use Rattle.mgn_lots.specs.declared.lot.Mark.{Mark}
use Rattle.mgn_lots.specs.declared.lot.Mark.TheVariants.{Busted, Moved, Traded}
use Rattle.mgn_lots.specs.Lots.{has_number, is_busted, is_full, is_live, lot_at, place_of_lot}
use Rattle.mgn_holds.specs.declared.held.Held.{Held}
use Rattle.mgn_holds.specs.Holds.{covers, has_order, hold_at, place_of_order, is_full as holds_full}
use Rattle.mgn_machine.specs.declared.command.Fill.{Fill}
use Rattle.mgn_machine.specs.declared.command.Hold.{Hold}
use Rattle.mgn_machine.specs.declared.command.Trade.{Trade}
use Rattle.mgn_machine.specs.declared.command.Transfer.{Transfer}
use Rattle.mgn_machine.specs.declared.reply.Refusal.{Refusal}
use Rattle.mgn_machine.specs.declared.reply.Refusal.TheVariants.{NoAccount, NoContract, NoOrder, NoTrade}
use Rattle.mgn_machine.specs.Holding.{fill_places, hold_places, release_places}
use Rattle.mgn_machine.specs.Refusals.{◌>>=◌, account_names, bust_places, contract_of, found, is_over, place_of, refuse_if, trade_places}
use Rattle.mgn_machine.specs.State.{AccountState, State, account_at}
use Rattle.mgn_machine.specs.Transfers.{move_places, parties, quantity_in_unit}
use Rattle.mgn_unit.specs.Changes.{bust_change, fill_change, hold_change, lot_change, moved_change, release_change}
use Rattle.mgn_plan.specs.declared.plans.Plan.TheVariants.{Nothing, One, Two}
use Rattle.mgn_plan.specs.declared.plans.UnitChange.{UnitChange}
use Rattle.mgn_plan.specs.Plans.{bust_plan, bust_plan_at, fill_plan, fill_plan_at, hold_plan, in_unit_of, move_plan, release_plan, release_plan_at, trade_plan}
use Rattle.mgn_register.proofs.Kept.{found-Some}

-- Chains of refusals that came to an end.

-- what the first of two gave
pub first_done : {A B : Type 0} (r : Result A Refusal) (f : A → Result B Refusal) (y : B) → r >>= f ≡ Ok y → (x : A) × ((r ≡ Ok x) × (f x ≡ Ok y))
first_done (Ok x) f y e = (x, (refl, e))
first_done (Err why) f y e = cc

-- a test that refused nothing
pub test_passed : {B : Type 0} (test : Bool) (why : Refusal) (f : Unit {0} → Result B Refusal) (y : B) → refuse_if test why >>= f ≡ Ok y → (test ≡ false) × (f tt ≡ Ok y)
unfolding refuse_if
test_passed true why f y e = cc
test_passed false why f y e = (refl, e)

-- an account that is found is one of the accounts
pub place-inside : (s : State) (account : List ℕ) (k : ℕ) → place_of s account ≡ Ok k → k < length s.accounts
unfolding place_of
place-inside s account k place =
    omega (arith, (position-Some (bytes_eq account) (account_names s.accounts) k [] (found-Some _ NoAccount k place)).0, length-map s.accounts (λ (a : AccountState). a.name))

contract-inside : (set' : Tables) (contract : List ℕ) (i : ℕ) → contract_of set' contract ≡ Ok i → i < length set'.contracts
unfolding contract_of
contract-inside set' contract i place =
    omega (arith, (position-Some (bytes_eq contract) (contract_names set'.contracts) i [] (found-Some _ NoContract i place)).0, length-map set'.contracts (λ (x : Contract). x.name))

-- where the account and the contract of a new lot stand
pub record FindsTrade (set' : Tables) (s : State) (t : Trade) (at : ℕ × ℕ) : Type 0 where
  pub account : at.0 < length s.accounts
  pub contract : at.1 < length set'.contracts
  pub stands : contract_of set' t.contract ≡ Ok at.1
  pub fresh : has_number (account_at s.accounts at.0).lots t.lot ≡ false
  pub few : is_full (account_at s.accounts at.0).lots ≡ false
  pub room : is_over s at.0 t.contract t.quantity ≡ false

pub trade-finds : (set' : Tables) (s : State) (t : Trade) (at : ℕ × ℕ) → trade_places set' s t ≡ Ok at → FindsTrade set' s t at
unfolding trade_places
trade-finds set' s t at done =
    let a = test_passed _ _ _ at done in
    let k = first_done _ _ at a.1 in
    let b = test_passed _ _ _ at k.1.1 in
    let i = first_done _ _ at b.1 in
    let c = test_passed _ _ _ at i.1.1 in
    let d = test_passed _ _ _ at c.1 in
    let e = test_passed _ _ _ at d.1 in
    let same : (k.0, i.0) ≡ at = cc (e.1) in
    subst (FindsTrade set' s t) same record {
      account = place-inside s t.account k.0 k.1.0;
      contract = contract-inside set' t.contract i.0 i.1.0;
      stands = i.1.0;
      fresh = b.0;
      few = d.0;
      room = e.0;
    }

-- where the account and the contract of a new hold stand
pub record FindsHold (set' : Tables) (s : State) (h : Hold) (at : ℕ × ℕ) : Type 0 where
  pub account : at.0 < length s.accounts
  pub contract : at.1 < length set'.contracts
  pub stands : contract_of set' h.contract ≡ Ok at.1
  pub fresh : has_order (account_at s.accounts at.0).holds h.order ≡ false
  pub few : holds_full (account_at s.accounts at.0).holds ≡ false
  pub room : is_over s at.0 h.contract h.quantity ≡ false

pub hold-finds : (set' : Tables) (s : State) (h : Hold) (at : ℕ × ℕ) → hold_places set' s h ≡ Ok at → FindsHold set' s h at
unfolding hold_places
hold-finds set' s h at done =
    let a = test_passed _ _ _ at done in
    let k = first_done _ _ at a.1 in
    let b = test_passed _ _ _ at k.1.1 in
    let i = first_done _ _ at b.1 in
    let c = test_passed _ _ _ at i.1.1 in
    let d = test_passed _ _ _ at c.1 in
    let e = test_passed _ _ _ at d.1 in
    let same : (k.0, i.0) ≡ at = cc (e.1) in
    subst (FindsHold set' s h) same record {
      account = place-inside s h.account k.0 k.1.0;
      contract = contract-inside set' h.contract i.0 i.1.0;
      stands = i.1.0;
      fresh = b.0;
      few = d.0;
      room = e.0;
    }

-- What a plan tells of the places that it was made of.

trade-planned : (s : State) (t : Trade) (places : Result (ℕ × ℕ) Refusal) (u : UnitChange) → One u ≡ trade_plan s t places → places ≡ Ok (u.account, u.change.contract)
trade-planned s t (Ok at) u planned =
    let same : u ≡ in_unit_of s at.0 (lot_change at.1 t.quantity t.premium) = cc in
    sym (ap (λ (x : UnitChange). Ok (x.account, x.change.contract)) same)
trade-planned s t (Err why) u planned = cc

hold-planned : (s : State) (h : Hold) (places : Result (ℕ × ℕ) Refusal) (u : UnitChange) → One u ≡ hold_plan s h places → places ≡ Ok (u.account, u.change.contract)
hold-planned s h (Ok at) u planned =
    let same : u ≡ in_unit_of s at.0 (hold_change at.1 h.quantity h.limit) = cc in
    sym (ap (λ (x : UnitChange). Ok (x.account, x.change.contract)) same)
hold-planned s h (Err why) u planned = cc

-- and so what is known of them

pub trade-plan-finds : (set' : Tables) (s : State) (t : Trade) (u : UnitChange) → One u ≡ trade_plan s t (trade_places set' s t) → FindsTrade set' s t (u.account, u.change.contract)
trade-plan-finds set' s t u planned = trade-finds set' s t (u.account, u.change.contract) (trade-planned s t (trade_places set' s t) u planned)

pub hold-plan-finds : (set' : Tables) (s : State) (h : Hold) (u : UnitChange) → One u ≡ hold_plan s h (hold_places set' s h) → FindsHold set' s h (u.account, u.change.contract)
hold-plan-finds set' s h u planned = hold-finds set' s h (u.account, u.change.contract) (hold-planned s h (hold_places set' s h) u planned)

-- RELEASE: where the account and the hold stand, and the hold's contract in the set
pub record FindsRelease (set' : Tables) (s : State) (account : List ℕ) (order : ℕ) (u : UnitChange) (j : ℕ) : Type 0 where
  pub places : release_places s account order ≡ Ok (u.account, j)
  pub owner : u.account < length s.accounts
  pub hold : found (place_of_order (account_at s.accounts u.account).holds order) NoOrder ≡ Ok j
  pub stands : contract_of set' (hold_at (account_at s.accounts u.account).holds j).contract ≡ Ok u.change.contract
  pub within : u.change.contract < length set'.contracts

release-found : (s : State) (account : List ℕ) (order : ℕ) (at : ℕ × ℕ) → release_places s account order ≡ Ok at
    → (at.0 < length s.accounts) × (found (place_of_order (account_at s.accounts at.0).holds order) NoOrder ≡ Ok at.1)
unfolding release_places
release-found s account order at done =
    let a = test_passed _ _ _ at done in
    let k = first_done _ _ at a.1 in
    let j = first_done _ _ at k.1.1 in
    let same : (k.0, j.0) ≡ at = cc (j.1.1) in
    subst (λ (p : ℕ × ℕ). (p.0 < length s.accounts) × (found (place_of_order (account_at s.accounts p.0).holds order) NoOrder ≡ Ok p.1)) same
    (place-inside s account k.0 k.1.0, j.1.0)

release-planned-at : (s : State) (k : ℕ) (held : Held) (place : Result ℕ Refusal) (u : UnitChange)
    → One u ≡ release_plan_at s k held place → (u.account ≡ k) × (place ≡ Ok u.change.contract)
release-planned-at s k held (Ok i) u planned =
    let same : u ≡ in_unit_of s k (release_change i held.quantity held.limit) = cc in
    (ap (λ (x : UnitChange). x.account) same, sym (ap (λ (x : UnitChange). Ok x.change.contract) same))
release-planned-at s k held (Err why) u planned = cc

release-planned : (set' : Tables) (s : State) (account : List ℕ) (order : ℕ) (places : Result (ℕ × ℕ) Refusal) (u : UnitChange)
    → release_places s account order ≡ places → One u ≡ release_plan set' s places → (j : ℕ) × FindsRelease set' s account order u j
release-planned set' s account order (Ok (k, j)) u done planned =
    let told = release-planned-at s k (hold_at (account_at s.accounts k).holds j) (contract_of set' (hold_at (account_at s.accounts k).holds j).contract) u planned in
    let there = release-found s account order (k, j) done in (
      j,
      record {
        places = done ∙ ap (λ (x : ℕ). Ok (x, j)) (sym told.0);
        owner = subst (λ (x : ℕ). x < length s.accounts) (sym told.0) there.0;
        hold = subst (λ (x : ℕ). found (place_of_order (account_at s.accounts x).holds order) NoOrder ≡ Ok j) (sym told.0) there.1;
        stands = subst (λ (x : ℕ). contract_of set' (hold_at (account_at s.accounts x).holds j).contract ≡ Ok u.change.contract) (sym told.0) told.1;
        within = contract-inside set' (hold_at (account_at s.accounts k).holds j).contract u.change.contract told.1;
      },
    )
release-planned set' s account order (Err why) u done planned = cc

pub release-plan-finds : (set' : Tables) (s : State) (account : List ℕ) (order : ℕ) (u : UnitChange)
    → One u ≡ release_plan set' s (release_places s account order) → (j : ℕ) × FindsRelease set' s account order u j
release-plan-finds set' s account order u planned = release-planned set' s account order (release_places s account order) u refl planned

-- the hold that is looked for among the account's own is the one of the plan
pub release-place : (set' : Tables) (s : State) (account : List ℕ) (order : ℕ) (u : UnitChange) (owner : AccountState) (j : ℕ)
    → One u ≡ release_plan set' s (release_places s account order) → owner ≡ account_at s.accounts u.account
    → Ok j ≡ found (place_of_order owner.holds order) NoOrder → FindsRelease set' s account order u j
release-place set' s account order u owner j planned own looked =
    let finds = release-plan-finds set' s account order u planned in
    let there : found (place_of_order owner.holds order) NoOrder ≡ Ok finds.0 = ap (λ (a : AccountState). found (place_of_order a.holds order) NoOrder) own ∙ finds.1.hold in
    let same : finds.0 ≡ j = cc (looked, there) in
    subst (FindsRelease set' s account order u) same finds.1

-- and it is there
pub release-place-there : (set' : Tables) (s : State) (account : List ℕ) (order : ℕ) (u : UnitChange) (owner : AccountState) (why : Refusal)
    → One u ≡ release_plan set' s (release_places s account order) → owner ≡ account_at s.accounts u.account
    → Err why ≡ found (place_of_order owner.holds order) NoOrder → ⊥
release-place-there set' s account order u owner why planned own looked =
    let finds = release-plan-finds set' s account order u planned in
    let there : found (place_of_order owner.holds order) NoOrder ≡ Ok finds.0 = ap (λ (a : AccountState). found (place_of_order a.holds order) NoOrder) own ∙ finds.1.hold in
    cc (looked, there)

-- FILL: the same, and what is known of the lot and the hold
pub record FindsFill (set' : Tables) (s : State) (f : Fill) (u : UnitChange) (j : ℕ) : Type 0 where
  pub places : fill_places set' s f ≡ Ok (u.account, j)
  pub owner : u.account < length s.accounts
  pub hold : found (place_of_order (account_at s.accounts u.account).holds f.order) NoOrder ≡ Ok j
  pub stands : contract_of set' (hold_at (account_at s.accounts u.account).holds j).contract ≡ Ok u.change.contract
  pub within : u.change.contract < length set'.contracts
  pub fresh : has_number (account_at s.accounts u.account).lots f.lot ≡ false
  pub covered : covers (hold_at (account_at s.accounts u.account).holds j) f.quantity ≡ true
  pub few : is_full (account_at s.accounts u.account).lots ≡ false

record FoundFill (s : State) (f : Fill) (at : ℕ × ℕ) : Type 0 where
  owner : at.0 < length s.accounts
  hold : found (place_of_order (account_at s.accounts at.0).holds f.order) NoOrder ≡ Ok at.1
  fresh : has_number (account_at s.accounts at.0).lots f.lot ≡ false
  covered : covers (hold_at (account_at s.accounts at.0).holds at.1) f.quantity ≡ true
  few : is_full (account_at s.accounts at.0).lots ≡ false

fill-found : (set' : Tables) (s : State) (f : Fill) (at : ℕ × ℕ) → fill_places set' s f ≡ Ok at → FoundFill s f at
unfolding fill_places
fill-found set' s f at done =
    let a = test_passed _ _ _ at done in
    let k = first_done _ _ at a.1 in
    let b = test_passed _ _ _ at k.1.1 in
    let j = first_done _ _ at b.1 in
    let c = test_passed _ _ _ at j.1.1 in
    let d = test_passed _ _ _ at c.1 in
    let e = test_passed _ _ _ at d.1 in
    let g = test_passed _ _ _ at e.1 in
    let same : (k.0, j.0) ≡ at = cc (g.1) in
    subst (FoundFill s f) same record {
      owner = place-inside s f.account k.0 k.1.0;
      hold = j.1.0;
      fresh = b.0;
      covered = not-false (covers (hold_at (account_at s.accounts k.0).holds j.0) f.quantity) e.0;
      few = g.0;
    }

fill-planned-at : (s : State) (k : ℕ) (held : Held) (f : Fill) (place : Result ℕ Refusal) (u : UnitChange)
    → One u ≡ fill_plan_at s k held f place → (u.account ≡ k) × (place ≡ Ok u.change.contract)
fill-planned-at s k held f (Ok i) u planned =
    let same : u ≡ in_unit_of s k (fill_change i f.quantity held.limit f.premium) = cc in
    (ap (λ (x : UnitChange). x.account) same, sym (ap (λ (x : UnitChange). Ok x.change.contract) same))
fill-planned-at s k held f (Err why) u planned = cc

fill-planned : (set' : Tables) (s : State) (f : Fill) (places : Result (ℕ × ℕ) Refusal) (u : UnitChange)
    → fill_places set' s f ≡ places → One u ≡ fill_plan set' s f places → (j : ℕ) × FindsFill set' s f u j
fill-planned set' s f (Ok (k, j)) u done planned =
    let told = fill-planned-at s k (hold_at (account_at s.accounts k).holds j) f (contract_of set' (hold_at (account_at s.accounts k).holds j).contract) u planned in
    let there = fill-found set' s f (k, j) done in (
      j,
      record {
        places = done ∙ ap (λ (x : ℕ). Ok (x, j)) (sym told.0);
        owner = subst (λ (x : ℕ). x < length s.accounts) (sym told.0) there.owner;
        hold = subst (λ (x : ℕ). found (place_of_order (account_at s.accounts x).holds f.order) NoOrder ≡ Ok j) (sym told.0) there.hold;
        stands = subst (λ (x : ℕ). contract_of set' (hold_at (account_at s.accounts x).holds j).contract ≡ Ok u.change.contract) (sym told.0) told.1;
        within = contract-inside set' (hold_at (account_at s.accounts k).holds j).contract u.change.contract told.1;
        fresh = subst (λ (x : ℕ). has_number (account_at s.accounts x).lots f.lot ≡ false) (sym told.0) there.fresh;
        covered = subst (λ (x : ℕ). covers (hold_at (account_at s.accounts x).holds j) f.quantity ≡ true) (sym told.0) there.covered;
        few = subst (λ (x : ℕ). is_full (account_at s.accounts x).lots ≡ false) (sym told.0) there.few;
      },
    )
fill-planned set' s f (Err why) u done planned = cc

pub fill-plan-finds : (set' : Tables) (s : State) (f : Fill) (u : UnitChange)
    → One u ≡ fill_plan set' s f (fill_places set' s f) → (j : ℕ) × FindsFill set' s f u j
fill-plan-finds set' s f u planned = fill-planned set' s f (fill_places set' s f) u refl planned

pub fill-place : (set' : Tables) (s : State) (f : Fill) (u : UnitChange) (owner : AccountState) (j : ℕ)
    → One u ≡ fill_plan set' s f (fill_places set' s f) → owner ≡ account_at s.accounts u.account
    → Ok j ≡ found (place_of_order owner.holds f.order) NoOrder → FindsFill set' s f u j
fill-place set' s f u owner j planned own looked =
    let finds = fill-plan-finds set' s f u planned in
    let there : found (place_of_order owner.holds f.order) NoOrder ≡ Ok finds.0 = ap (λ (a : AccountState). found (place_of_order a.holds f.order) NoOrder) own ∙ finds.1.hold in
    let same : finds.0 ≡ j = cc (looked, there) in
    subst (FindsFill set' s f u) same finds.1

pub fill-place-there : (set' : Tables) (s : State) (f : Fill) (u : UnitChange) (owner : AccountState) (why : Refusal)
    → One u ≡ fill_plan set' s f (fill_places set' s f) → owner ≡ account_at s.accounts u.account
    → Err why ≡ found (place_of_order owner.holds f.order) NoOrder → ⊥
fill-place-there set' s f u owner why planned own looked =
    let finds = fill-plan-finds set' s f u planned in
    let there : found (place_of_order owner.holds f.order) NoOrder ≡ Ok finds.0 = ap (λ (a : AccountState). found (place_of_order a.holds f.order) NoOrder) own ∙ finds.1.hold in
    cc (looked, there)

-- BUST: where the account and its lot stand, and the lot's contract in the set
pub record FindsBust (set' : Tables) (s : State) (account : List ℕ) (lot : ℕ) (u : UnitChange) (j : ℕ) : Type 0 where
  pub places : bust_places s account lot ≡ Ok (u.account, j)
  pub owner : u.account < length s.accounts
  pub traded : found (place_of_lot (account_at s.accounts u.account).lots lot) NoTrade ≡ Ok j
  pub live : is_live (lot_at (account_at s.accounts u.account).lots j).mark ≡ true
  pub stands : contract_of set' (lot_at (account_at s.accounts u.account).lots j).contract ≡ Ok u.change.contract
  pub within : u.change.contract < length set'.contracts

bust-found : (s : State) (account : List ℕ) (lot : ℕ) (at : ℕ × ℕ) → bust_places s account lot ≡ Ok at
    → (at.0 < length s.accounts) × (found (place_of_lot (account_at s.accounts at.0).lots lot) NoTrade ≡ Ok at.1)
    × (is_busted (lot_at (account_at s.accounts at.0).lots at.1).mark ≡ false)
unfolding bust_places
bust-found s account lot at done =
    let a = test_passed _ _ _ at done in
    let k = first_done _ _ at a.1 in
    let j = first_done _ _ at k.1.1 in
    let b = test_passed _ _ _ at j.1.1 in
    let c = test_passed _ _ _ at b.1 in
    let same : (k.0, j.0) ≡ at = cc (c.1) in
    subst (λ (p : ℕ × ℕ). (p.0 < length s.accounts) × (found (place_of_lot (account_at s.accounts p.0).lots lot) NoTrade ≡ Ok p.1)
    × (is_busted (lot_at (account_at s.accounts p.0).lots p.1).mark ≡ false)) same
    (place-inside s account k.0 k.1.0, j.1.0, b.0)

pub live_mark : (mark : Mark) → is_busted mark ≡ false → is_live mark ≡ true
live_mark Traded h = refl
live_mark Moved h = refl
live_mark Busted h = cc

bust-planned-at : (s : State) (k : ℕ) (lot : Lot) (place : Result ℕ Refusal) (u : UnitChange)
    → One u ≡ bust_plan_at s k lot place → (u.account ≡ k) × (place ≡ Ok u.change.contract)
bust-planned-at s k lot (Ok i) u planned =
    let same : u ≡ in_unit_of s k (bust_change i lot) = cc in
    (ap (λ (x : UnitChange). x.account) same, sym (ap (λ (x : UnitChange). Ok x.change.contract) same))
bust-planned-at s k lot (Err why) u planned = cc

bust-planned : (set' : Tables) (s : State) (account : List ℕ) (lot : ℕ) (places : Result (ℕ × ℕ) Refusal) (u : UnitChange)
    → bust_places s account lot ≡ places → One u ≡ bust_plan set' s places → (j : ℕ) × FindsBust set' s account lot u j
bust-planned set' s account lot (Ok (k, j)) u done planned =
    let told = bust-planned-at s k (lot_at (account_at s.accounts k).lots j) (contract_of set' (lot_at (account_at s.accounts k).lots j).contract) u planned in
    let there = bust-found s account lot (k, j) done in (
      j,
      record {
        places = done ∙ ap (λ (x : ℕ). Ok (x, j)) (sym told.0);
        owner = subst (λ (x : ℕ). x < length s.accounts) (sym told.0) there.0;
        traded = subst (λ (x : ℕ). found (place_of_lot (account_at s.accounts x).lots lot) NoTrade ≡ Ok j) (sym told.0) there.1;
        live = subst (λ (x : ℕ). is_live (lot_at (account_at s.accounts x).lots j).mark ≡ true) (sym told.0) (live_mark (lot_at (account_at s.accounts k).lots j).mark there.2);
        stands = subst (λ (x : ℕ). contract_of set' (lot_at (account_at s.accounts x).lots j).contract ≡ Ok u.change.contract) (sym told.0) told.1;
        within = contract-inside set' (lot_at (account_at s.accounts k).lots j).contract u.change.contract told.1;
      },
    )
bust-planned set' s account lot (Err why) u done planned = cc

pub bust-plan-finds : (set' : Tables) (s : State) (account : List ℕ) (lot : ℕ) (u : UnitChange)
    → One u ≡ bust_plan set' s (bust_places s account lot) → (j : ℕ) × FindsBust set' s account lot u j
bust-plan-finds set' s account lot u planned = bust-planned set' s account lot (bust_places s account lot) u refl planned

pub bust-place : (set' : Tables) (s : State) (account : List ℕ) (lot : ℕ) (u : UnitChange) (owner : AccountState) (j : ℕ)
    → One u ≡ bust_plan set' s (bust_places s account lot) → owner ≡ account_at s.accounts u.account
    → Ok j ≡ found (place_of_lot owner.lots lot) NoTrade → FindsBust set' s account lot u j
bust-place set' s account lot u owner j planned own looked =
    let finds = bust-plan-finds set' s account lot u planned in
    let there : found (place_of_lot owner.lots lot) NoTrade ≡ Ok finds.0 = ap (λ (a : AccountState). found (place_of_lot a.lots lot) NoTrade) own ∙ finds.1.traded in
    let same : finds.0 ≡ j = cc (looked, there) in
    subst (FindsBust set' s account lot u) same finds.1

pub bust-place-there : (set' : Tables) (s : State) (account : List ℕ) (lot : ℕ) (u : UnitChange) (owner : AccountState) (why : Refusal)
    → One u ≡ bust_plan set' s (bust_places s account lot) → owner ≡ account_at s.accounts u.account
    → Err why ≡ found (place_of_lot owner.lots lot) NoTrade → ⊥
bust-place-there set' s account lot u owner why planned own looked =
    let finds = bust-plan-finds set' s account lot u planned in
    let there : found (place_of_lot owner.lots lot) NoTrade ≡ Ok finds.0 = ap (λ (a : AccountState). found (place_of_lot a.lots lot) NoTrade) own ∙ finds.1.traded in
    cc (looked, there)

-- MOVE: where the giver, the taker and the contract stand
pub record FindsMove (set' : Tables) (s : State) (m : Transfer) (at : ℕ × ℕ × ℕ) : Type 0 where
  pub places : move_places set' s m ≡ Ok at
  pub giver : at.0 < length s.accounts
  pub taker : at.1 < length s.accounts
  pub apart : at.1 ≢ at.0
  pub stands : contract_of set' m.contract ≡ Ok at.2
  pub giver_fresh : has_number (account_at s.accounts at.0).lots m.lot ≡ false
  pub taker_fresh : has_number (account_at s.accounts at.1).lots m.lot ≡ false
  pub giver_few : is_full (account_at s.accounts at.0).lots ≡ false
  pub taker_few : is_full (account_at s.accounts at.1).lots ≡ false
  pub giver_room : is_over s at.0 m.contract (quantity_in_unit s at.0 at.1 m.quantity) ≡ false
  pub taker_room : is_over s at.1 m.contract (quantity_in_unit s at.0 at.1 m.quantity) ≡ false

record FoundParties (s : State) (m : Transfer) (at : ℕ × ℕ) : Type 0 where
  giver : at.0 < length s.accounts
  taker : at.1 < length s.accounts
  apart : at.1 ≢ at.0
  giver_fresh : has_number (account_at s.accounts at.0).lots m.lot ≡ false
  taker_fresh : has_number (account_at s.accounts at.1).lots m.lot ≡ false

other_account : (giver taker : ℕ) → (giver == taker) ≡ false → taker ≢ giver
other_account giver taker other same = grind (arith, nat_tests)

parties-found : (s : State) (m : Transfer) (at : ℕ × ℕ) → parties s m ≡ Ok at → FoundParties s m at
unfolding parties
parties-found s m at done =
    let a = test_passed _ _ _ at done in
    let g = first_done _ _ at a.1 in
    let t = first_done _ _ at g.1.1 in
    let b = test_passed _ _ _ at t.1.1 in
    let c = test_passed _ _ _ at b.1 in
    let d = test_passed _ _ _ at c.1 in
    let same : (g.0, t.0) ≡ at = cc (d.1) in
    subst (FoundParties s m) same record {
      giver = place-inside s m.from g.0 g.1.0;
      taker = place-inside s m.to t.0 t.1.0;
      apart = other_account g.0 t.0 d.0;
      giver_fresh = b.0;
      taker_fresh = c.0;
    }

move-finds : (set' : Tables) (s : State) (m : Transfer) (at : ℕ × ℕ × ℕ) → move_places set' s m ≡ Ok at → FindsMove set' s m at
unfolding move_places
move-finds set' s m at done =
    let p = first_done _ _ at done in
    let i = first_done _ _ at p.1.1 in
    let a = test_passed _ _ _ at i.1.1 in
    let b = test_passed _ _ _ at a.1 in
    let c = test_passed _ _ _ at b.1 in
    let d = test_passed _ _ _ at c.1 in
    let e = test_passed _ _ _ at d.1 in
    let same : (p.0.0, p.0.1, i.0) ≡ at = cc (e.1) in
    let both = parties-found s m p.0 p.1.0 in
    subst (FindsMove set' s m) same record {
      places = done ∙ ap (λ (x : ℕ × ℕ × ℕ). Ok x) (sym same);
      giver = both.giver;
      taker = both.taker;
      apart = both.apart;
      stands = i.1.0;
      giver_fresh = both.giver_fresh;
      taker_fresh = both.taker_fresh;
      giver_few = b.0;
      taker_few = c.0;
      giver_room = d.0;
      taker_room = e.0;
    }

both-planned : (a b u v : UnitChange) (one : Bool) → Two u v ≡ (if one then Nothing else Two a b) → (u ≡ a) × (v ≡ b)
both-planned a b u v true planned = cc
both-planned a b u v false planned = (cc (planned), cc (planned))

move-planned : (set' : Tables) (s : State) (m : Transfer) (places : Result (ℕ × ℕ × ℕ) Refusal) (u v : UnitChange)
    → Two u v ≡ move_plan s m places → places ≡ Ok (u.account, v.account, u.change.contract)
move-planned set' s m (Ok (g, t, i)) u v planned =
    let given = in_unit_of s g (moved_change i (neg_ℤ m.quantity)) in
    let taken = in_unit_of s t (moved_change i m.quantity) in
    let told = both-planned given taken u v (given.unit == taken.unit) planned in
    ap (λ (x : UnitChange). Ok (x.account, t, x.change.contract)) (sym told.0) ∙ ap (λ (x : UnitChange). Ok (u.account, x.account, u.change.contract)) (sym told.1)
move-planned set' s m (Err why) u v planned = cc

pub move-plan-finds : (set' : Tables) (s : State) (m : Transfer) (u v : UnitChange)
    → Two u v ≡ move_plan s m (move_places set' s m) → FindsMove set' s m (u.account, v.account, u.change.contract)
move-plan-finds set' s m u v planned = move-finds set' s m (u.account, v.account, u.change.contract) (move-planned set' s m (move_places set' s m) u v planned)
