-- What a FILL at the limit of its hold leaves as it was: for the law of that name.
use Rattle.std.proofs.Common.{◌≡◌, ℕ, refl, sym, ap, ◌∙◌, arith, Bool, true, false}
use Rattle.std.specs.Prelude.{ℤ, nat_eq, Some, Result, Ok, Err}
use Rattle.std.proofs.lemmas.Int.{ints}
use Rattle.std.proofs.lemmas.List.Quantifiers.{position-Some}
use Rattle.mgn_params.specs.Tables.{Tables}
use Rattle.mgn_holds.specs.declared.held.Held.{Held}
use Rattle.mgn_holds.specs.Holds.{is_buy, hold_at, place_of_order, covers}
use Rattle.mgn_machine.specs.declared.command.Fill.{Fill}
use Rattle.mgn_machine.specs.declared.reply.Refusal.{Refusal}
use Rattle.mgn_machine.specs.declared.reply.Refusal.TheVariants.{NoOrder}
use Rattle.mgn_machine.specs.State.{State, account_at, put}
use Rattle.mgn_machine.specs.Portfolios.{Portfolio}
use Rattle.mgn_machine.specs.Refusals.{◌>>=◌, found, place_of}
use Rattle.mgn_machine.specs.Room.{requirement_of, room_of, worth_of}
use Rattle.mgn_machine.specs.Holding.{fill_places, fill_of}
use Rattle.mgn_unit.specs.Laws.{counts}
use Rattle.mgn_unit.specs.Rows.{portfolio_of, portfolio_room}
use Rattle.mgn_unit.specs.declared.row.PortfolioRow.{PortfolioRow}
use Rattle.mgn_unit.proofs.AtLimit.{fill_at_limit-keeps}
use Rattle.mgn_book.specs.FilledAtLimit.{FillsAtLimit}
use Rattle.mgn_register.proofs.Found.{first_done, place-inside, test_passed}
use Rattle.std.proofs.lemmas.Bool.{not-false}

-- Chains of refusals that came to an end.

-- what comes after a first that is known
then_done : {A B : Type 0} (r : Result A Refusal) (f : A → Result B Refusal) (x : A) (y : B) → r ≡ Ok x → r >>= f ≡ Ok y → f x ≡ Ok y
then_done {A = A} r f x y is e = sym (ap (λ (z : Result A Refusal). z >>= f) is) ∙ e

-- what was done is one thing
same_done : {A : Type 0} (r : Result A Refusal) (x y : A) → r ≡ Ok x → r ≡ Ok y → x ≡ y
same_done (Ok z) x y e f = cc
same_done (Err why) x y e f = cc

-- where the fill takes place, and that the hold covers it
fill_places-done : (set' : Tables) (s : State) (f : Fill) (k j : ℕ) (at : ℕ × ℕ) → place_of s f.account ≡ Ok k → place_of_order (account_at s.accounts k).holds f.order ≡ Some j → fill_places set' s f ≡ Ok at → (covers (hold_at (account_at s.accounts k).holds j) f.quantity ≡ true) × ((k, j) ≡ at)
unfolding fill_places
fill_places-done set' s f k j at place hold done =
    let not_closed = test_passed _ _ _ at done in
    let fresh = test_passed _ _ _ at (then_done _ _ k at place not_closed.1) in
    let met = test_passed _ _ _ at (then_done _ _ j at (ap (λ o. found o NoOrder) hold) fresh.1) in
    let fits = test_passed _ _ _ at met.1 in
    let covered = test_passed _ _ _ at fits.1 in
    let few = test_passed _ _ _ at covered.1 in
    (not-false _ covered.0, same_done _ (k, j) at refl few.1)

-- a quantity that a hold covers is on its side
covered-side : (x : Held) (q : ℤ) → covers x q ≡ true → is_buy q ≡ is_buy x.quantity
covered-side x q = by (is_buy x.quantity) refl
  where
    by : (b : Bool) → is_buy x.quantity ≡ b → covers x q ≡ true → is_buy q ≡ is_buy x.quantity
    by true e c = grind (arith, ints)
    by false e c = grind (arith, ints)

-- each portfolio that counts the hold stays as it was
pub fill_done-keeps : (set' : Tables) (old new : State) (p : Portfolio) (u : ℕ) → FillsAtLimit set' old new p → portfolio_of set' new.accounts u p ≡ portfolio_of set' old.accounts u p
fill_done-keeps set' old new p u at =
    let a = account_at old.accounts at.place in
    let f = at.fill in
    let ends = first_done (fill_places set' old f) _ new at.done in
    let found = fill_places-done set' old f at.place at.hold ends.0 at.account_stands at.hold_stands ends.1.0 in
    let now : put old at.place (fill_of a at.hold f) ≡ new =
    ap (λ (places : ℕ × ℕ). put old places.0 (fill_of (account_at old.accounts places.0) places.1 f)) found.1 ∙ same_done _ _ new refl ends.1.1
    in
    sym (ap (λ (s : State). portfolio_of set' s.accounts u p) now)
    ∙ fill_at_limit-keeps set' old.accounts at.place at.hold f p u (place-inside old f.account at.place at.account_stands)
    (position-Some (λ (y : Held). nat_eq y.order f.order) a.holds at.hold (hold_at a.holds at.hold) at.hold_stands).0 found.0
    (ap (counts p) (covered-side (hold_at a.holds at.hold) f.quantity found.0) ∙ at.counted) at.at_limit

pub requirement-kept : (set' : Tables) (old new : State) (p : Portfolio) (u : ℕ) → FillsAtLimit set' old new p → requirement_of set' new.accounts u p ≡ requirement_of set' old.accounts u p
unfolding portfolio_of requirement_of
requirement-kept set' old new p u fill = ap (λ (side : PortfolioRow). side.requirement) (fill_done-keeps set' old new p u fill)

pub worth-kept : (set' : Tables) (old new : State) (p : Portfolio) (u : ℕ) → FillsAtLimit set' old new p → worth_of set' new.accounts u p ≡ worth_of set' old.accounts u p
unfolding portfolio_of worth_of
worth-kept set' old new p u fill = ap (λ (side : PortfolioRow). side.worth) (fill_done-keeps set' old new p u fill)

pub room-kept : (set' : Tables) (old new : State) (p : Portfolio) (u : ℕ) → FillsAtLimit set' old new p → room_of set' new.accounts u p ≡ room_of set' old.accounts u p
unfolding portfolio_of worth_of requirement_of
room-kept set' old new p u fill = ap portfolio_room (fill_done-keeps set' old new p u fill)
