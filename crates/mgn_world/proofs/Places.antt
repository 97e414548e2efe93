-- Where a command takes place that nothing but want of room refuses: its accounts and contracts are there.
use Rattle.std.proofs.Common.{◌≡◌, ◌≢◌, ◌<◌, ◌∙◌, ℕ, true, false, Some, List, length, subst, arith, Ok}
use Rattle.std.specs.Prelude.{◌==◌, nat_eq}
use Rattle.std.proofs.lemmas.Bool.Decides.{nat_tests}
use Rattle.std.proofs.lemmas.List.{length-map}
use Rattle.std.proofs.lemmas.List.Quantifiers.{position-Some}
use Rattle.mgn_params.specs.Tables.{Tables}
use Rattle.mgn_lots.specs.declared.lot.Lot.{Lot}
use Rattle.mgn_lots.specs.Lots.{is_live, lot_at, numbers_of, place_of_lot}
use Rattle.mgn_holds.specs.declared.held.Held.{Held}
use Rattle.mgn_holds.specs.Holds.{covers, hold_at, no_hold, place_of_order}
use Rattle.mgn_machine.specs.declared.command.Fill.{Fill}
use Rattle.mgn_machine.specs.declared.command.Hold.{Hold}
use Rattle.mgn_machine.specs.declared.command.Trade.{Trade}
use Rattle.mgn_machine.specs.declared.command.Transfer.{Transfer}
use Rattle.mgn_machine.specs.declared.reply.Refusal.TheVariants.{NoOrder, NoTrade}
use Rattle.mgn_machine.specs.Holding.{fill_places, hold_places, release_places}
use Rattle.mgn_machine.specs.Refusals.{bust_places, contract_of, place_of, trade_places}
use Rattle.mgn_machine.specs.State.{State, account_at}
use Rattle.mgn_machine.specs.Transfers.{move_places, parties}
use Rattle.mgn_register.proofs.Found.{first_done, live_mark, test_passed}
use Rattle.mgn_register.proofs.Kept.{found-Some}
use Rattle.std.proofs.lemmas.Bool.{not-false}

-- where a command takes place, in a day that is not over
pub record Takes (s : State) (name : List ℕ) (k : ℕ) : Type 0 where
  pub open_day : s.closed ≡ false
  pub place : place_of s name ≡ Ok k

pub trade_at : (set' : Tables) (s : State) (t : Trade) (at : ℕ × ℕ) → trade_places set' s t ≡ Ok at → Takes s t.account at.0 × (contract_of set' t.contract ≡ Ok at.1)
unfolding trade_places
trade_at set' s t at done =
    let a = test_passed _ _ _ at done in
    let k = first_done _ _ at a.1 in
    let b = test_passed _ _ _ at k.1.1 in
    let i = first_done _ _ at b.1 in
    let c = test_passed _ _ _ at i.1.1 in
    let d = test_passed _ _ _ at c.1 in
    let e = test_passed _ _ _ at d.1 in
    let same : (k.0, i.0) ≡ at = cc (e.1) in
    (record { open_day = a.0; place = k.1.0 ∙ (λ j. Ok (same j).0) }, i.1.0 ∙ (λ j. Ok (same j).1))

pub bust_at : (set' : Tables) (s : State) (name : List ℕ) (lot : ℕ) (at : ℕ × ℕ) → bust_places s name lot ≡ Ok at
    → Takes s name at.0 × (at.1 < length (account_at s.accounts at.0).lots) × (is_live (lot_at (account_at s.accounts at.0).lots at.1).mark ≡ true)
unfolding bust_places
bust_at set' s name lot at done =
    let a = test_passed _ _ _ at done in
    let k = first_done _ _ at a.1 in
    let i = first_done _ _ at k.1.1 in
    let b = test_passed _ _ _ at i.1.1 in
    let c = test_passed _ _ _ at b.1 in
    let same : (k.0, i.0) ≡ at = cc (c.1) in
    let there : place_of_lot (account_at s.accounts k.0).lots lot ≡ Some i.0 = found-Some _ NoTrade i.0 i.1.0 in
    let inside : i.0 < length (account_at s.accounts k.0).lots = omega (arith, (position-Some (nat_eq lot) (numbers_of (account_at s.accounts k.0).lots) i.0 0 there).0, length-map (account_at s.accounts k.0).lots (λ (x : Lot). x.number)) in (
      record { open_day = a.0; place = k.1.0 ∙ (λ j. Ok (same j).0) },
      subst (λ (p : ℕ × ℕ). p.1 < length (account_at s.accounts p.0).lots) same inside,
      subst (λ (p : ℕ × ℕ). is_live (lot_at (account_at s.accounts p.0).lots p.1).mark ≡ true) same (live_mark (lot_at (account_at s.accounts k.0).lots i.0).mark b.0),
    )

pub hold_takes : (set' : Tables) (s : State) (h : Hold) (at : ℕ × ℕ) → hold_places set' s h ≡ Ok at → Takes s h.account at.0 × (contract_of set' h.contract ≡ Ok at.1)
unfolding hold_places
hold_takes set' s h at done =
    let a = test_passed _ _ _ at done in
    let k = first_done _ _ at a.1 in
    let b = test_passed _ _ _ at k.1.1 in
    let i = first_done _ _ at b.1 in
    let c = test_passed _ _ _ at i.1.1 in
    let d = test_passed _ _ _ at c.1 in
    let e = test_passed _ _ _ at d.1 in
    let same : (k.0, i.0) ≡ at = cc (e.1) in
    (record { open_day = a.0; place = k.1.0 ∙ (λ j. Ok (same j).0) }, i.1.0 ∙ (λ j. Ok (same j).1))

pub fill_at : (set' : Tables) (s : State) (f : Fill) (at : ℕ × ℕ) → fill_places set' s f ≡ Ok at
    → Takes s f.account at.0 × (at.1 < length (account_at s.accounts at.0).holds) × (covers (hold_at (account_at s.accounts at.0).holds at.1) f.quantity ≡ true)
unfolding fill_places
fill_at set' s f at done =
    let a = test_passed _ _ _ at done in
    let k = first_done _ _ at a.1 in
    let b = test_passed _ _ _ at k.1.1 in
    let i = first_done _ _ at b.1 in
    let c = test_passed _ _ _ at i.1.1 in
    let d = test_passed _ _ _ at c.1 in
    let e = test_passed _ _ _ at d.1 in
    let g = test_passed _ _ _ at e.1 in
    let same : (k.0, i.0) ≡ at = cc (g.1) in
    let there : place_of_order (account_at s.accounts k.0).holds f.order ≡ Some i.0 = found-Some _ NoOrder i.0 i.1.0 in
    let inside : i.0 < length (account_at s.accounts k.0).holds = (position-Some (λ (x : Held). nat_eq x.order f.order) (account_at s.accounts k.0).holds i.0 no_hold there).0 in (
      record { open_day = a.0; place = k.1.0 ∙ (λ j. Ok (same j).0) },
      subst (λ (p : ℕ × ℕ). p.1 < length (account_at s.accounts p.0).holds) same inside,
      subst (λ (p : ℕ × ℕ). covers (hold_at (account_at s.accounts p.0).holds p.1) f.quantity ≡ true) same (not-false _ e.0),
    )

pub release_at : (s : State) (name : List ℕ) (order : ℕ) (at : ℕ × ℕ) → release_places s name order ≡ Ok at → Takes s name at.0 × (at.1 < length (account_at s.accounts at.0).holds)
unfolding release_places
release_at s name order at done =
    let a = test_passed _ _ _ at done in
    let k = first_done _ _ at a.1 in
    let i = first_done _ _ at k.1.1 in
    let same : (k.0, i.0) ≡ at = cc (i.1.1) in
    let there : place_of_order (account_at s.accounts k.0).holds order ≡ Some i.0 = found-Some _ NoOrder i.0 i.1.0 in
    let inside : i.0 < length (account_at s.accounts k.0).holds = (position-Some (λ (x : Held). nat_eq x.order order) (account_at s.accounts k.0).holds i.0 no_hold there).0 in (
      record { open_day = a.0; place = k.1.0 ∙ (λ j. Ok (same j).0) },
      subst (λ (p : ℕ × ℕ). p.1 < length (account_at s.accounts p.0).holds) same inside,
    )

apart : (i j : ℕ) → i == j ≡ false → j ≢ i
apart i j e = λ (same : j ≡ i). absurd (grind (arith, nat_tests))

pub parties_at : (s : State) (m : Transfer) (at : ℕ × ℕ) → parties s m ≡ Ok at → Takes s m.from at.0 × Takes s m.to at.1 × (at.1 ≢ at.0)
unfolding parties
parties_at s m at done =
    let a = test_passed _ _ _ at done in
    let g = first_done _ _ at a.1 in
    let t = first_done _ _ at g.1.1 in
    let b = test_passed _ _ _ at t.1.1 in
    let c = test_passed _ _ _ at b.1 in
    let d = test_passed _ _ _ at c.1 in
    let same : (g.0, t.0) ≡ at = cc (d.1) in (
      record { open_day = a.0; place = g.1.0 ∙ (λ j. Ok (same j).0) },
      record { open_day = a.0; place = t.1.0 ∙ (λ j. Ok (same j).1) },
      subst (λ (p : ℕ × ℕ). p.1 ≢ p.0) same (apart g.0 t.0 d.0),
    )

pub move_at : (set' : Tables) (s : State) (m : Transfer) (at : ℕ × ℕ × ℕ) → move_places set' s m ≡ Ok at → Takes s m.from at.0 × Takes s m.to at.1 × (at.1 ≢ at.0) × (contract_of set' m.contract ≡ Ok at.2)
unfolding move_places
move_at set' s m at done =
    let p = first_done _ _ at done in
    let i = first_done _ _ at p.1.1 in
    let a = test_passed _ _ _ at i.1.1 in
    let b = test_passed _ _ _ at a.1 in
    let c = test_passed _ _ _ at b.1 in
    let d = test_passed _ _ _ at c.1 in
    let e = test_passed _ _ _ at d.1 in
    let same : (p.0.0, p.0.1, i.0) ≡ at = cc (e.1) in
    let both = parties_at s m p.0 p.1.0 in (
      subst (λ (q : ℕ × ℕ × ℕ). Takes s m.from q.0) same both.0,
      subst (λ (q : ℕ × ℕ × ℕ). Takes s m.to q.1) same both.1,
      subst (λ (q : ℕ × ℕ × ℕ). q.1 ≢ q.0) same both.2,
      i.1.0 ∙ (λ j. Ok (same j).2),
    )
