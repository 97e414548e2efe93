-- What a transfer owes: room for its sizes, rows that are kept, and what it is answered.
use Rattle.std.proofs.Common.{◌≡◌, ◌≢◌, ℕ, ◌+◌, ◌<◌, ◌≤◌, ◌^◌, List, [], ◌∷◌, ◌++◌, zero, suc, length, take, drop, set, get_or, refl, sym, ap, ◌∙◌, subst, arith, All, Bool, true, false, length-set}
use Rattle.std.specs.Prelude.{◌-◌, ◌||◌, if◌then◌else◌, nat_eq, ℤ, pos, neg_ℤ, ◌+ℤ◌, unsigned_abs, Result, Ok, Err, OnOk, OnErr, IfSome, int_lt}
use Rattle.std.proofs.lemmas.Int.{ints}
use Rattle.std.proofs.lemmas.Bool.Decides.{nat_tests}
use Rattle.std.proofs.lemmas.List.{get_or_default, get_or-take, get_or-drop, get_or-set_same, get_or-set_other, set-append_left, set-append_right, take-append-drop, length-take-le}
use Rattle.std.proofs.lemmas.List.Elements.{All-push, All-set}
use Rattle.mgn_params.specs.Limits.{IsWithinLimits}
use Rattle.mgn_params.specs.Tables.{Tables}
use Rattle.mgn_ids.specs.Amounts.{IsLotQuantity}
use Rattle.mgn_span.specs.Positions.{IsNet}
use Rattle.mgn_lots.specs.declared.lot.Lot.{Lot}
use Rattle.mgn_lots.specs.Lots.{IsLot, is_live, is_full}
use Rattle.mgn_machine.specs.declared.command.Transfer.{Transfer}
use Rattle.mgn_machine.specs.declared.origin.Origin.{Origin}
use Rattle.mgn_machine.specs.declared.reply.Refusal.{Refusal}
use Rattle.mgn_machine.specs.declared.reply.Refusal.TheVariants.{NoRoom}
use Rattle.mgn_machine.specs.State.{State, AccountState, IsAccount, no_account, account_at, with_lot}
use Rattle.mgn_machine.specs.Refusals.{◌>>=◌, if_room, contract_of, has_contract, is_over, IsKnown, account_names}
use Rattle.mgn_machine.specs.Transfers.{moved, moved_lot, move_places, quantity_in_unit, with_move}
use Rattle.mgn_machine.proofs.Names.{unit_size}
use Rattle.mgn_unit.specs.declared.row.Row.{Row}
use Rattle.mgn_unit.specs.Changes.{Moves, moved_change}
use Rattle.mgn_unit.specs.Rows.{IsChange, IsRoomy, Priced, Prices, lacks_room, no_row, row_of, row_with, row_with_size}
use Rattle.mgn_unit.proofs.AccountMoves.{lot-limits}
use Rattle.mgn_unit.proofs.Moved.{Stands, row-moved, row-apart}
use Rattle.mgn_unit.proofs.TransferMoves.{moved-moves, row-within}
use Rattle.mgn_register.specs.declared.step_fault.StepFault.{StepFault}
use Rattle.mgn_register.specs.declared.step_fault.StepFault.TheVariants.{Refused, Memory}
use Rattle.mgn_register.specs.BookStates.{AsksMemory, BookState, book_state, IsKept, IsUnitRow, Steps}
use Rattle.mgn_register.specs.TransferRows.{AskBoth, TakesChange, TakesLot, account_with, party_of, with_both}
use Rattle.mgn_plan.specs.Plans.{row_at}
use Rattle.mgn_register.specs.declared.transfers.Party.{Party}
use Rattle.mgn_register.proofs.Kept.{unit-inside, home-inside, sizes-more, stands-inside, stands-known, names-kept}
use Rattle.mgn_register.proofs.Holding.{Reads, stands, old-row, row-size, row-small, changed-roomy, changed-row, changed-kept, was-limits, was-known, asked-room}

-- Two places of a list.

pub set-apart : {X : Type 0} (xs : List X) (i j : ℕ) (x y : X) → j ≢ i → set (set xs i x) j y ≡ set (set xs j y) i x
set-apart [] i j x y apart = refl
set-apart (z ∷ xs) zero zero x y apart = absurd (apart refl)
set-apart (z ∷ xs) zero (suc j) x y apart = refl
set-apart (z ∷ xs) (suc i) zero x y apart = refl
set-apart (z ∷ xs) (suc i) (suc j) x y apart = ap (λ l. z ∷ l) (set-apart xs i j x y (λ e. apart (ap suc e)))

-- one place in the front of a list and the first of the rest
pub set-parts : {X : Type 0} (xs : List X) (i j : ℕ) (x y : X) → i < j → j < length xs → set (take j xs) i x ++ set (drop j xs) 0 y ≡ set (set xs j y) i x
set-parts xs i j x y before inside =
    sym (set-append_left (take j xs) (set (drop j xs) 0 y) i x (omega (arith, before, long)))
    ∙ ap (λ l. set l i x) (sym (set-append_right (take j xs) (drop j xs) j j y long (omega arith) ∙ ap (λ k. take j xs ++ set (drop j xs) k y) none) ∙ ap (λ l. set l j y) (take-append-drop j xs))
  where
    long : length (take j xs) ≡ j
    long = length-take-le j xs (omega (arith, inside))

    none : j - j ≡ 0
    none = omega arith

-- a fact that two facts give, where they hold
pub on_ok-both : {X E : Type 0} {A B C : Type 0} (r : Result X E) → (A → B → C) → OnOk r A → OnOk r B → OnOk r C
on_ok-both (Ok x) f first second = f first second
on_ok-both (Err why) f first second = tt

-- both lots entered by the parts of the list of accounts, the giver's in front of the taker's or behind it

account-in-front : (accounts : List AccountState) (i j : ℕ) (d : AccountState) → i < j → j < length accounts → get_or (take j accounts) i d ≡ account_at accounts i
account-in-front accounts i j d before inside = get_or-take j accounts i d before ∙ get_or_default accounts i d no_account (omega (arith, before, inside))

account-behind : (accounts : List AccountState) (j : ℕ) (d : AccountState) → j < length accounts → get_or (drop j accounts) 0 d ≡ account_at accounts j
account-behind accounts j d inside =
    let here : j + 0 ≡ j = omega arith in
    get_or-drop j accounts 0 d ∙ ap (λ (k : ℕ). get_or accounts k d) here ∙ get_or_default accounts j d no_account inside

pub giver-in-front : (accounts : List AccountState) (giver taker : Party) (d e x y : AccountState) (front back : List AccountState) → TakesLot accounts giver → TakesLot accounts taker → taker.place ≢ giver.place → giver.place < taker.place → front ≡ take taker.place accounts → back ≡ drop taker.place accounts
    → x ≡ with_lot (get_or front giver.place d) giver.lot → y ≡ with_lot (get_or back 0 e) taker.lot → set front giver.place x ++ set back 0 y ≡ with_both accounts giver taker
giver-in-front accounts giver taker d e x y front back given taken apart before front_is back_is x_is y_is =
    (λ j. set (front_is j) giver.place (one j) ++ set (back_is j) 0 (other j))
    ∙ set-parts accounts giver.place taker.place (account_with accounts giver) (account_with accounts taker) before taken.inside
    ∙ sym (set-apart accounts giver.place taker.place (account_with accounts giver) (account_with accounts taker) apart)
  where
    one : x ≡ account_with accounts giver
    one = x_is ∙ ap (λ (z : AccountState). with_lot z giver.lot) (ap (λ (l : List AccountState). get_or l giver.place d) front_is ∙ account-in-front accounts giver.place taker.place d before taken.inside)

    other : y ≡ account_with accounts taker
    other = y_is ∙ ap (λ (z : AccountState). with_lot z taker.lot) (ap (λ (l : List AccountState). get_or l 0 e) back_is ∙ account-behind accounts taker.place e taken.inside)

pub taker-in-front : (accounts : List AccountState) (giver taker : Party) (d e x y : AccountState) (front back : List AccountState) → TakesLot accounts giver → TakesLot accounts taker → taker.place ≢ giver.place → taker.place ≤ giver.place → front ≡ take giver.place accounts → back ≡ drop giver.place accounts
    → x ≡ with_lot (get_or back 0 d) giver.lot → y ≡ with_lot (get_or front taker.place e) taker.lot → set front taker.place y ++ set back 0 x ≡ with_both accounts giver taker
taker-in-front accounts giver taker d e x y front back given taken apart behind front_is back_is x_is y_is =
    (λ j. set (front_is j) taker.place (other j) ++ set (back_is j) 0 (one j))
    ∙ set-parts accounts taker.place giver.place (account_with accounts taker) (account_with accounts giver) before given.inside
  where
    before : taker.place < giver.place
    before = grind (arith, behind, apart)

    one : x ≡ account_with accounts giver
    one = x_is ∙ ap (λ (z : AccountState). with_lot z giver.lot) (ap (λ (l : List AccountState). get_or l 0 d) back_is ∙ account-behind accounts giver.place d given.inside)

    other : y ≡ account_with accounts taker
    other = y_is ∙ ap (λ (z : AccountState). with_lot z taker.lot) (ap (λ (l : List AccountState). get_or l taker.place e) front_is ∙ account-in-front accounts taker.place giver.place e before given.inside)

-- What is known where a transfer is about to be entered.
pub record Moving (set' : Tables) (f : BookState) (g t i : ℕ) (m : Transfer) : Type 0 where
  pub within : IsWithinLimits set'
  pub kept : IsKept set' f
  pub giver : g < length f.state.accounts
  pub taker : t < length f.state.accounts
  pub apart : t ≢ g
  pub stands : contract_of set' m.contract ≡ Ok i
  pub giver_few : is_full (account_at f.state.accounts g).lots ≡ false
  pub taker_few : is_full (account_at f.state.accounts t).lots ≡ false
  pub giver_room : is_over f.state g m.contract (quantity_in_unit f.state g t m.quantity) ≡ false
  pub taker_room : is_over f.state t m.contract (quantity_in_unit f.state g t m.quantity) ≡ false
  pub quantity : IsLotQuantity m.quantity

-- the account at a place and the row of its unit, as they stand
pub reads-there : (set' : Tables) (f : BookState) (k i : ℕ) (contract : List ℕ) → IsWithinLimits set' → IsKept set' f → k < length f.state.accounts → contract_of set' contract ≡ Ok i
    → Reads set' f k i (account_at f.state.accounts k) (row_at set' f.rows (account_at f.state.accounts k).unit) contract
reads-there set' f k i contract within kept there stands =
    let a = account_at f.state.accounts k in
    let was : a ≡ get_or f.state.accounts k a = get_or_default f.state.accounts k no_account a there in
    let r = row_at set' f.rows a.unit in
    record {
      within = within;
      kept = kept;
      account = there;
      was = was;
      row = get_or_default f.rows a.unit (no_row set') r (unit-inside set' f k a kept there was);
      stands = stands;
    }

giver-reads : (set' : Tables) (f : BookState) (g t i : ℕ) (m : Transfer) → Moving set' f g t i m → Reads set' f g i (account_at f.state.accounts g) (row_at set' f.rows (account_at f.state.accounts g).unit) m.contract
giver-reads set' f g t i m moving = reads-there set' f g i m.contract moving.within moving.kept moving.giver moving.stands

taker-reads : (set' : Tables) (f : BookState) (g t i : ℕ) (m : Transfer) → Moving set' f g t i m → Reads set' f t i (account_at f.state.accounts t) (row_at set' f.rows (account_at f.state.accounts t).unit) m.contract
taker-reads set' f g t i m moving = reads-there set' f t i m.contract moving.within moving.kept moving.taker moving.stands

-- The sizes.

one-fits : (size quantity : ℤ) (one : Bool) → IsNet size → int_lt (pos (10 ^ 7)) (size +ℤ pos (unsigned_abs (if one then quantity +ℤ quantity else quantity))) ≡ false → IsNet (size +ℤ pos (unsigned_abs quantity))
one-fits size quantity true small room = grind (arith, ints, room)
one-fits size quantity false small room = grind (arith, ints, room)

both-fit : (size quantity : ℤ) → IsNet size → int_lt (pos (10 ^ 7)) (size +ℤ pos (unsigned_abs (quantity +ℤ quantity))) ≡ false → IsNet (size +ℤ (pos (unsigned_abs (neg_ℤ quantity)) +ℤ pos (unsigned_abs quantity)))
both-fit size quantity small room = grind (arith, ints, room)

same-size : (quantity : ℤ) → unsigned_abs (neg_ℤ quantity) ≡ unsigned_abs quantity
same-size quantity = omega (arith, ints)

pub lot-is : (number : ℕ) (contract : List ℕ) (quantity : ℤ) → IsLotQuantity quantity → IsLot (moved_lot number contract quantity)
lot-is number contract quantity is = record { some = is.some; most = is.most; premium = omega arith }

pub negated-is : (quantity : ℤ) → IsLotQuantity quantity → IsLotQuantity (neg_ℤ quantity)
negated-is quantity is = record { some = omega (arith, ints, is.some); most = omega (arith, ints, is.most) }

moved-roomy : (set' : Tables) (f : BookState) (k i : ℕ) (a : AccountState) (r : Row) (number : ℕ) (contract : List ℕ) (quantity : ℤ) → Reads set' f k i a r contract → IsNet (unit_size f.state a.unit contract +ℤ pos (unsigned_abs quantity)) → IsRoomy (moved_change i quantity) r
moved-roomy set' f k i a r number contract quantity reads fits =
    changed-roomy set' f k a (with_lot a (moved_lot number contract quantity)) r contract (moved_change i quantity) reads (moved-moves set' a number contract i quantity)
    (subst (λ (z : ℤ). IsNet (z +ℤ pos (unsigned_abs quantity))) (sym (row-size set' f k i a r contract reads)) fits)

unit-small : (set' : Tables) (f : BookState) (k i : ℕ) (a : AccountState) (r : Row) (contract : List ℕ) → Reads set' f k i a r contract → IsNet (unit_size f.state a.unit contract)
unit-small set' f k i a r contract reads = subst IsNet (row-size set' f k i a r contract reads) (row-small set' f k i a r contract reads)

pub giver-roomy : (set' : Tables) (f : BookState) (g t i : ℕ) (m : Transfer) → Moving set' f g t i m → IsRoomy (moved_change i (neg_ℤ m.quantity)) (row_at set' f.rows (account_at f.state.accounts g).unit)
giver-roomy set' f g t i m moving =
    let a = account_at f.state.accounts g in
    let r = row_at set' f.rows a.unit in
    let known = giver-reads set' f g t i m moving in
    let size = unit_size f.state a.unit m.contract in
    moved-roomy set' f g i a r m.lot m.contract (neg_ℤ m.quantity) known
    (subst (λ (n : ℕ). IsNet (size +ℤ pos n)) (sym (same-size m.quantity))
    (one-fits size m.quantity (nat_eq a.unit (account_at f.state.accounts t).unit) (unit-small set' f g i a r m.contract known) moving.giver_room))

pub taker-roomy : (set' : Tables) (f : BookState) (g t i : ℕ) (m : Transfer) → Moving set' f g t i m → IsRoomy (moved_change i m.quantity) (row_at set' f.rows (account_at f.state.accounts t).unit)
taker-roomy set' f g t i m moving =
    let b = account_at f.state.accounts t in
    let r = row_at set' f.rows b.unit in
    let known = taker-reads set' f g t i m moving in
    moved-roomy set' f t i b r m.lot m.contract m.quantity known
    (one-fits (unit_size f.state b.unit m.contract) m.quantity (nat_eq (account_at f.state.accounts g).unit b.unit) (unit-small set' f t i b r m.contract known) moving.taker_room)

-- One account and its row.

lot-limited : (set' : Tables) (f : BookState) (k i : ℕ) (a : AccountState) (r : Row) (number : ℕ) (contract : List ℕ) (quantity : ℤ) → Reads set' f k i a r contract → IsLotQuantity quantity → is_full a.lots ≡ false → IsAccount (with_lot a (moved_lot number contract quantity))
lot-limited set' f k i a r number contract quantity reads is few =
    lot-limits a (moved_lot number contract quantity) (was-limits set' f k i a r contract reads) (lot-is number contract quantity is) (grind (arith, nat_tests, few))

lot-known : (set' : Tables) (f : BookState) (k i : ℕ) (a : AccountState) (r : Row) (number : ℕ) (contract : List ℕ) (quantity : ℤ) → Reads set' f k i a r contract → IsKnown set' (with_lot a (moved_lot number contract quantity))
lot-known set' f k i a r number contract quantity reads =
    let before = was-known set' f k i a r contract reads in
    record {
      lots = All-push (λ (x : Lot). is_live x.mark ≡ true → has_contract set' x.contract ≡ true) a.lots (moved_lot number contract quantity) before.lots (λ _. stands-known set' contract i (stands set' f k i a r contract reads));
      holds = before.holds;
    }

party-kept : (set' : Tables) (origins : List Origin) (accounts : List AccountState) (rows : List Row) (closed : Bool) (version : ℕ) (k i : ℕ) (a : AccountState) (r : Row) (number : ℕ) (contract : List ℕ) (quantity : ℤ) (priced : Priced) → Reads set' (book_state origins accounts rows closed version) k i a r contract → IsRoomy (moved_change i quantity) r → Prices set' (moved_change i quantity) r priced → IsLotQuantity quantity → is_full a.lots ≡ false
    → IsKept set' (book_state origins (set accounts k (with_lot a (moved_lot number contract quantity))) (set rows a.unit (row_with set' (moved_change i quantity) r)) closed version)
party-kept set' origins accounts rows closed version k i a r number contract quantity priced reads room prices is few =
    let f = book_state origins accounts rows closed version in
    changed-kept set' origins accounts rows closed version k a (with_lot a (moved_lot number contract quantity)) (with_lot a (moved_lot number contract quantity)) r (row_with set' (moved_change i quantity) r) contract (moved_change i quantity) priced reads
    (moved-moves set' a number contract i quantity) refl room prices (lot-limited set' f k i a r number contract quantity reads is few) (lot-known set' f k i a r number contract quantity reads) refl refl

-- Two accounts of two units.

-- how the taker and its row are read once the giver has its lot
later-reads : (set' : Tables) (origins : List Origin) (accounts : List AccountState) (rows : List Row) (closed : Bool) (version : ℕ) (g t i : ℕ) (b a' : AccountState) (given : Row) (u : ℕ) (contract : List ℕ) → Reads set' (book_state origins accounts rows closed version) t i b (row_at set' rows b.unit) contract → IsKept set' (book_state origins (set accounts g a') (set rows u given) closed version) → t ≢ g → b.unit ≢ u
    → Reads set' (book_state origins (set accounts g a') (set rows u given) closed version) t i b (row_at set' rows b.unit) contract
later-reads set' origins accounts rows closed version g t i b a' given u contract reads kept apart units = record {
  within = reads.within;
  kept = kept;
  account = omega (arith, length-set accounts g a', reads.account);
  was = reads.was ∙ sym (get_or-set_other accounts g t a' b apart);
  row = reads.row ∙ sym (get_or-set_other rows u b.unit given (row_at set' rows b.unit) units);
  stands = reads.stands;
}

pub across-kept : (set' : Tables) (origins : List Origin) (accounts : List AccountState) (rows : List Row) (closed : Bool) (version : ℕ) (g t i : ℕ) (m : Transfer) (given taken : Priced) → Moving set' (book_state origins accounts rows closed version) g t i m → (account_at accounts t).unit ≢ (account_at accounts g).unit
    → Prices set' (moved_change i (neg_ℤ m.quantity)) (row_at set' rows (account_at accounts g).unit) given → Prices set' (moved_change i m.quantity) (row_at set' rows (account_at accounts t).unit) taken
    → IsKept set' (book_state origins (set (set accounts g (with_lot (account_at accounts g) (moved_lot m.lot m.contract (neg_ℤ m.quantity)))) t (with_lot (account_at accounts t) (moved_lot m.lot m.contract m.quantity)))
    (set (set rows (account_at accounts g).unit (row_with set' (moved_change i (neg_ℤ m.quantity)) (row_at set' rows (account_at accounts g).unit))) (account_at accounts t).unit (row_with set' (moved_change i m.quantity) (row_at set' rows (account_at accounts t).unit))) closed version)
across-kept set' origins accounts rows closed version g t i m given taken moving units prices_given prices_taken =
    party-kept set' origins (set accounts g a') (set rows a.unit given_row) closed version t i b (row_at set' rows b.unit) m.lot m.contract m.quantity taken
    (later-reads set' origins accounts rows closed version g t i b a' given_row a.unit m.contract (taker-reads set' f g t i m moving) first moving.apart units)
    (taker-roomy set' f g t i m moving) prices_taken moving.quantity moving.taker_few
  where
    f : BookState
    f = book_state origins accounts rows closed version

    a : AccountState
    a = account_at accounts g

    b : AccountState
    b = account_at accounts t

    a' : AccountState
    a' = with_lot a (moved_lot m.lot m.contract (neg_ℤ m.quantity))

    given_row : Row
    given_row = row_with set' (moved_change i (neg_ℤ m.quantity)) (row_at set' rows a.unit)

    first : IsKept set' (book_state origins (set accounts g a') (set rows a.unit given_row) closed version)
    first =
        party-kept set' origins accounts rows closed version g i a (row_at set' rows a.unit) m.lot m.contract (neg_ℤ m.quantity) given (giver-reads set' f g t i m moving)
        (giver-roomy set' f g t i m moving) prices_given (negated-is m.quantity moving.quantity) moving.giver_few

-- the rows of both units afterwards
across-given : (set' : Tables) (f : BookState) (g t i : ℕ) (m : Transfer) → Moving set' f g t i m → (account_at f.state.accounts t).unit ≢ (account_at f.state.accounts g).unit
    → row_of set' (with_move f.state g t m).accounts (account_at f.state.accounts g).unit ≡ row_with set' (moved_change i (neg_ℤ m.quantity)) (row_at set' f.rows (account_at f.state.accounts g).unit)
across-given set' f g t i m moving units =
    row-apart set' (set f.state.accounts g a') t a.unit b' (omega (arith, length-set f.state.accounts g a', moving.taker)) (λ e. units (sym there_unit ∙ e)) (sym there_unit)
    ∙ sym (changed-row set' f g a a' (row_at set' f.rows a.unit) m.contract (moved_change i (neg_ℤ m.quantity)) (giver-reads set' f g t i m moving) (moved-moves set' a m.lot m.contract i (neg_ℤ m.quantity)))
  where
    a : AccountState
    a = account_at f.state.accounts g

    a' : AccountState
    a' = with_lot a (moved_lot m.lot m.contract (neg_ℤ m.quantity))

    b' : AccountState
    b' = with_lot (account_at f.state.accounts t) (moved_lot m.lot m.contract m.quantity)

    there_unit : (get_or (set f.state.accounts g a') t no_account).unit ≡ (account_at f.state.accounts t).unit
    there_unit = ap (λ (x : AccountState). x.unit) (get_or-set_other f.state.accounts g t a' no_account moving.apart)

across-taken : (set' : Tables) (f : BookState) (g t i : ℕ) (m : Transfer) → Moving set' f g t i m → (account_at f.state.accounts t).unit ≢ (account_at f.state.accounts g).unit
    → row_of set' (with_move f.state g t m).accounts (account_at f.state.accounts t).unit ≡ row_with set' (moved_change i m.quantity) (row_at set' f.rows (account_at f.state.accounts t).unit)
across-taken set' f g t i m moving units =
    row-moved set' (set f.state.accounts g a') t b.unit b' m.contract (moved_change i m.quantity) (stands set' f t i b (row_at set' f.rows b.unit) m.contract known)
    record { inside = omega (arith, length-set f.state.accounts g a', moving.taker); was = ap (λ (x : AccountState). x.unit) there; now = refl }
    (subst (λ (x : AccountState). Moves set' m.contract (moved_change i m.quantity) x b') (sym there) (moved-moves set' b m.lot m.contract i m.quantity))
    ∙ ap (λ (x : Row). row_with set' (moved_change i m.quantity) x) (row-apart set' f.state.accounts g b.unit a' moving.giver (λ e. units (sym e)) refl ∙ sym (old-row set' f t i b (row_at set' f.rows b.unit) m.contract known).is)
  where
    b : AccountState
    b = account_at f.state.accounts t

    a' : AccountState
    a' = with_lot (account_at f.state.accounts g) (moved_lot m.lot m.contract (neg_ℤ m.quantity))

    b' : AccountState
    b' = with_lot b (moved_lot m.lot m.contract m.quantity)

    known : Reads set' f t i b (row_at set' f.rows b.unit) m.contract
    known = taker-reads set' f g t i m moving

    there : get_or (set f.state.accounts g a') t no_account ≡ b
    there = get_or-set_other f.state.accounts g t a' no_account moving.apart

-- Two accounts of one unit.

-- what both lots add to the size of the unit
abbrev pub both_sizes : Transfer → ℤ
both_sizes m = pos (unsigned_abs (neg_ℤ m.quantity)) +ℤ pos (unsigned_abs m.quantity)

within-row : (set' : Tables) (f : BookState) (g t i : ℕ) (m : Transfer) → Moving set' f g t i m → (account_at f.state.accounts t).unit ≡ (account_at f.state.accounts g).unit
    → row_of set' (with_move f.state g t m).accounts (account_at f.state.accounts g).unit ≡ row_with_size i (both_sizes m) (row_at set' f.rows (account_at f.state.accounts g).unit)
within-row set' f g t i m moving one =
    row-within set' f.state.accounts g t a.unit i m.contract m.quantity (with_lot a (moved_lot m.lot m.contract (neg_ℤ m.quantity))) (with_lot b (moved_lot m.lot m.contract m.quantity))
    found (stands-inside set' m.contract i found) moving.apart
    record { inside = moving.giver; was = refl; now = refl } record { inside = moving.taker; was = one; now = one }
    (moved-moves set' a m.lot m.contract i (neg_ℤ m.quantity)) (moved-moves set' b m.lot m.contract i m.quantity)
    ∙ ap (λ (x : Row). row_with_size i (both_sizes m) x) (sym (old-row set' f g i a (row_at set' f.rows a.unit) m.contract known).is)
  where
    a : AccountState
    a = account_at f.state.accounts g

    b : AccountState
    b = account_at f.state.accounts t

    known : Reads set' f g i a (row_at set' f.rows a.unit) m.contract
    known = giver-reads set' f g t i m moving

    found : Stands set' m.contract i
    found = stands set' f g i a (row_at set' f.rows a.unit) m.contract known

-- the size of the unit stays within the limit
pub within-fits : (set' : Tables) (f : BookState) (g t i : ℕ) (m : Transfer) → Moving set' f g t i m → (account_at f.state.accounts t).unit ≡ (account_at f.state.accounts g).unit
    → IsNet (get_or (row_at set' f.rows (account_at f.state.accounts g).unit).sizes i (pos 0) +ℤ both_sizes m)
within-fits set' f g t i m moving one =
    subst (λ (z : ℤ). IsNet (z +ℤ both_sizes m)) (sym (row-size set' f g i a (row_at set' f.rows a.unit) m.contract known))
    (both-fit (unit_size f.state a.unit m.contract) m.quantity (unit-small set' f g i a (row_at set' f.rows a.unit) m.contract known)
    (ap (λ (b : Bool). int_lt (pos (10 ^ 7)) (unit_size f.state a.unit m.contract +ℤ pos (unsigned_abs (if b then m.quantity +ℤ m.quantity else m.quantity)))) (sym same) ∙ moving.giver_room))
  where
    a : AccountState
    a = account_at f.state.accounts g

    known : Reads set' f g i a (row_at set' f.rows a.unit) m.contract
    known = giver-reads set' f g t i m moving

    same : nat_eq a.unit (account_at f.state.accounts t).unit ≡ true
    same = grind (arith, nat_tests, one)

within-own : (set' : Tables) (f : BookState) (g t i : ℕ) (m : Transfer) → Moving set' f g t i m → (account_at f.state.accounts t).unit ≡ (account_at f.state.accounts g).unit
    → IsUnitRow set' (with_move f.state g t m).accounts (account_at f.state.accounts g).unit (row_with_size i (both_sizes m) (row_at set' f.rows (account_at f.state.accounts g).unit))
within-own set' f g t i m moving one = record {
  is = sym (within-row set' f g t i m moving one);
  limits = record {
    one_each = length-set r.sizes i (get_or r.sizes i (pos 0) +ℤ both_sizes m) ∙ old.limits.one_each;
    sizes = sizes-more r.sizes i (both_sizes m) old.limits.sizes (within-fits set' f g t i m moving one);
    lots = old.limits.lots;
    buys = old.limits.buys;
    sales = old.limits.sales;
    all = old.limits.all;
  };
}
  where
    a : AccountState
    a = account_at f.state.accounts g

    r : Row
    r = row_at set' f.rows a.unit

    old : IsUnitRow set' f.state.accounts a.unit r
    old = old-row set' f g i a r m.contract (giver-reads set' f g t i m moving)

pub within-kept : (set' : Tables) (origins : List Origin) (accounts : List AccountState) (rows : List Row) (closed : Bool) (version : ℕ) (g t i : ℕ) (m : Transfer) → Moving set' (book_state origins accounts rows closed version) g t i m → (account_at accounts t).unit ≡ (account_at accounts g).unit
    → IsKept set' (book_state origins (set (set accounts g (with_lot (account_at accounts g) (moved_lot m.lot m.contract (neg_ℤ m.quantity)))) t (with_lot (account_at accounts t) (moved_lot m.lot m.contract m.quantity)))
    (set rows (account_at accounts g).unit (row_with_size i (both_sizes m) (row_at set' rows (account_at accounts g).unit))) closed version)
within-kept set' origins accounts rows closed version g t i m moving one = record {
  units = refl;
  few_units = omega (arith, long, moving.kept.few_units);
  few_accounts = omega (arith, length-set accounts g a', length-set (set accounts g a') t b', moving.kept.few_accounts);
  accounts = each IsAccount (lot-limited set' f g i a r m.lot m.contract (neg_ℤ m.quantity) giving (negated-is m.quantity moving.quantity) moving.giver_few)
      (lot-limited set' f t i b (row_at set' rows b.unit) m.lot m.contract m.quantity taking moving.quantity moving.taker_few) moving.kept.accounts;
  known = each (IsKnown set') (lot-known set' f g i a r m.lot m.contract (neg_ℤ m.quantity) giving) (lot-known set' f t i b (row_at set' rows b.unit) m.lot m.contract m.quantity taking) moving.kept.known;
  within = subst (λ (n : ℕ). All (λ (x : AccountState). x.unit < n) (set (set accounts g a') t b')) (sym long)
      (each (λ (x : AccountState). x.unit < length rows) (unit-inside set' f g a moving.kept moving.giver giving.was) (unit-inside set' f t b moving.kept moving.taker taking.was) moving.kept.within);
  homes = each (λ (x : AccountState). x.origin < length origins) (home-inside set' f g a moving.kept moving.giver giving.was) (home-inside set' f t b moving.kept moving.taker taking.was) moving.kept.homes;
  netted = subst (λ (n : ℕ). All (λ (o : Origin). IfSome o.unit (λ u. u < n)) origins) (sym long) moving.kept.netted;
  rows = λ u d less. at u d (omega (arith, long, less)) (nat_eq u a.unit) refl;
}
  where
    f : BookState
    f = book_state origins accounts rows closed version

    a : AccountState
    a = account_at accounts g

    b : AccountState
    b = account_at accounts t

    r : Row
    r = row_at set' rows a.unit

    a' : AccountState
    a' = with_lot a (moved_lot m.lot m.contract (neg_ℤ m.quantity))

    b' : AccountState
    b' = with_lot b (moved_lot m.lot m.contract m.quantity)

    after : Row
    after = row_with_size i (both_sizes m) r

    giving : Reads set' f g i a r m.contract
    giving = giver-reads set' f g t i m moving

    taking : Reads set' f t i b (row_at set' rows b.unit) m.contract
    taking = taker-reads set' f g t i m moving

    long : length (set rows a.unit after) ≡ length rows
    long = length-set rows a.unit after

    inside : a.unit < length rows
    inside = unit-inside set' f g a moving.kept moving.giver giving.was

    each : (P : AccountState → Type 0) → P a' → P b' → All P accounts → All P (set (set accounts g a') t b')
    each P first second all = All-set P (set accounts g a') t b' second (All-set P accounts g a' first all)

    there : get_or (set accounts g a') t no_account ≡ b
    there = get_or-set_other accounts g t a' no_account moving.apart

    other : (u : ℕ) → u ≢ a.unit → row_of set' (set (set accounts g a') t b') u ≡ row_of set' accounts u
    other u apart =
        row-apart set' (set accounts g a') t u b' (omega (arith, length-set accounts g a', moving.taker)) (λ e. apart (sym e ∙ ap (λ (x : AccountState). x.unit) there ∙ one)) (sym (ap (λ (x : AccountState). x.unit) there))
        ∙ row-apart set' accounts g u a' moving.giver (λ e. apart (sym e)) refl

    at : (u : ℕ) (d : Row) → u < length rows → (same : Bool) → nat_eq u a.unit ≡ same → IsUnitRow set' (set (set accounts g a') t b') u (get_or (set rows a.unit after) u d)
    at u d less true e =
        let here : u ≡ a.unit = grind (arith, nat_tests) in
        subst (λ (v : ℕ). IsUnitRow set' (set (set accounts g a') t b') v (get_or (set rows a.unit after) v d)) (sym here)
        (subst (λ (x : Row). IsUnitRow set' (set (set accounts g a') t b') a.unit x) (sym (get_or-set_same rows a.unit after d inside)) (within-own set' f g t i m moving one))
    at u d less false e =
        let apart : u ≢ a.unit = λ (x : u ≡ a.unit). absurd (grind (arith, nat_tests)) in
        let old : IsUnitRow set' accounts u (get_or rows u d) = moving.kept.rows u d less in
        subst (λ (x : Row). IsUnitRow set' (set (set accounts g a') t b') u x) (sym (get_or-set_other rows a.unit u after d apart)) record { is = old.is ∙ sym (other u apart); limits = old.limits }

-- What a transfer is answered.

asked-rooms : (now : State) (one other : Result State Refusal) (s t : Bool) → one ≡ (if s then Err NoRoom else Ok now) → other ≡ (if t then Err NoRoom else Ok now) → (one >>= (λ (x : State). other)) ≡ (if s || t then Err NoRoom else Ok now)
asked-rooms now one other true t first second = ap (λ (r : Result State Refusal). r >>= (λ (x : State). other)) first
asked-rooms now one other false t first second = ap (λ (r : Result State Refusal). r >>= (λ (x : State). other)) first ∙ second

moved-by : (set' : Tables) (s : State) (g t i : ℕ) (m : Transfer) → move_places set' s m ≡ Ok (g, t, i)
    → moved set' s m ≡ (if lacks_room (row_of set' (with_move s g t m).accounts (account_at s.accounts g).unit) || lacks_room (row_of set' (with_move s g t m).accounts (account_at s.accounts t).unit) then Err NoRoom else Ok (with_move s g t m))
moved-by set' s g t i m places =
    ap (λ (x : Result (ℕ × ℕ × ℕ) Refusal). x >>= (λ at. if_room set' (account_at s.accounts at.0).unit (with_move s at.0 at.1 m) >>= (λ (now : State). if_room set' (account_at s.accounts at.1).unit (with_move s at.0 at.1 m)))) places
    ∙ asked-rooms (with_move s g t m) _ _ _ _ (asked-room set' (account_at s.accounts g).unit (with_move s g t m) _ refl) (asked-room set' (account_at s.accounts t).unit (with_move s g t m) _ refl)

asked-memory : (b : Bool) (now : State) → AsksMemory (if b then Err NoRoom else Ok now)
asked-memory true now = refl
asked-memory false now = tt

-- where both rows afterwards are known, and what was asked of them
answered : (now : State) (s t : Bool) (giver taker : Row) (want : Result State Refusal) (f new : BookState) (result : Result (Unit {0}) StepFault) → want ≡ (if s || t then Err NoRoom else Ok now) → lacks_room giver ≡ s → lacks_room taker ≡ t → AskBoth giver taker result → OnOk result (new.state ≡ now) → OnErr result (new ≡ f) → Steps want result f new
answered now s t giver taker want f new (Ok done) is first second asks state same =
    is ∙ ap (λ (b : Bool). if b then Err NoRoom else Ok now) ((λ j. sym first j || sym second j) ∙ (λ j. asks.0 j || asks.1 j)) ∙ ap (λ (x : State). Ok x) (sym state)
answered now s t giver taker want f new (Err (Refused why)) is first second asks state same =
    (is ∙ ap (λ (b : Bool). if b then Err NoRoom else Ok now) ((λ j. sym first j || sym second j) ∙ asks.1) ∙ ap (λ (x : Refusal). Err x) (sym asks.0), same)
answered now s t giver taker want f new (Err Memory) is first second asks state same = (subst AsksMemory (sym is) (asked-memory (s || t) now), same)

pub across-answered : (set' : Tables) (f new : BookState) (g t i : ℕ) (m : Transfer) (result : Result (Unit {0}) StepFault) → Moving set' f g t i m → move_places set' f.state m ≡ Ok (g, t, i) → (account_at f.state.accounts t).unit ≢ (account_at f.state.accounts g).unit
    → AskBoth (row_with set' (moved_change i (neg_ℤ m.quantity)) (row_at set' f.rows (account_at f.state.accounts g).unit)) (row_with set' (moved_change i m.quantity) (row_at set' f.rows (account_at f.state.accounts t).unit)) result
    → OnOk result (new.state ≡ with_move f.state g t m) → OnErr result (new ≡ f) → Steps (moved set' f.state m) result f new
across-answered set' f new g t i m result moving places units asks state same =
    answered (with_move f.state g t m) _ _ (row_with set' (moved_change i (neg_ℤ m.quantity)) (row_at set' f.rows (account_at f.state.accounts g).unit)) (row_with set' (moved_change i m.quantity) (row_at set' f.rows (account_at f.state.accounts t).unit)) (moved set' f.state m) f new result (moved-by set' f.state g t i m places)
    (ap lacks_room (sym (across-given set' f g t i m moving units))) (ap lacks_room (sym (across-taken set' f g t i m moving units))) asks state same

pub within-answered : (set' : Tables) (f new : BookState) (g t i : ℕ) (m : Transfer) (result : Result (Unit {0}) StepFault) → Moving set' f g t i m → move_places set' f.state m ≡ Ok (g, t, i) → (account_at f.state.accounts t).unit ≡ (account_at f.state.accounts g).unit
    → AskBoth (row_at set' f.rows (account_at f.state.accounts g).unit) (row_at set' f.rows (account_at f.state.accounts g).unit) result
    → OnOk result (new.state ≡ with_move f.state g t m) → OnErr result (new ≡ f) → Steps (moved set' f.state m) result f new
within-answered set' f new g t i m result moving places one asks state same =
    answered (with_move f.state g t m) _ _ r r (moved set' f.state m) f new result (moved-by set' f.state g t i m places) room
    (room ∙ ap (λ (u : ℕ). lacks_room (row_of set' (with_move f.state g t m).accounts u)) (sym one)) asks state same
  where
    r : Row
    r = row_at set' f.rows (account_at f.state.accounts g).unit

    room : lacks_room r ≡ lacks_room (row_of set' (with_move f.state g t m).accounts (account_at f.state.accounts g).unit)
    room = ap lacks_room (sym (within-row set' f g t i m moving one))

-- What is known of the lists once both lots are entered, or nothing is.

pub record EnteredAcross (set' : Tables) (accounts : List AccountState) (rows : List Row) (giver taker : Party) (result : Result (Unit {0}) StepFault) (now : List AccountState) (after : List Row) : Type 0 where
  pub accounts_are : OnOk result (now ≡ with_both accounts giver taker)
  pub rows_are : OnOk result (after ≡ set (set rows giver.unit (row_with set' giver.change (row_at set' rows giver.unit))) taker.unit (row_with set' taker.change (row_at set' rows taker.unit)))
  pub giver_priced : OnOk result ((priced : Priced) × Prices set' giver.change (row_at set' rows giver.unit) priced)
  pub taker_priced : OnOk result ((priced : Priced) × Prices set' taker.change (row_at set' rows taker.unit) priced)
  pub room : AskBoth (row_with set' giver.change (row_at set' rows giver.unit)) (row_with set' taker.change (row_at set' rows taker.unit)) result
  pub same_accounts : OnErr result (now ≡ accounts)
  pub same_rows : OnErr result (after ≡ rows)

pub record EnteredWithin (set' : Tables) (accounts : List AccountState) (rows : List Row) (giver taker : Party) (result : Result (Unit {0}) StepFault) (now : List AccountState) (after : List Row) : Type 0 where
  pub accounts_are : OnOk result (now ≡ with_both accounts giver taker)
  pub rows_are : OnOk result (after ≡ set rows giver.unit (row_with_size giver.change.contract (giver.change.size +ℤ taker.change.size) (row_at set' rows giver.unit)))
  pub room : AskBoth (row_at set' rows giver.unit) (row_at set' rows giver.unit) result
  pub same_accounts : OnErr result (now ≡ accounts)
  pub same_rows : OnErr result (after ≡ rows)

-- the parties of a transfer
abbrev pub giver_of : BookState → ℕ → ℕ → Transfer → Party
giver_of f g i m = party_of (account_at f.state.accounts g) g i m (neg_ℤ m.quantity)

abbrev pub taker_of : BookState → ℕ → ℕ → Transfer → Party
taker_of f t i m = party_of (account_at f.state.accounts t) t i m m.quantity

-- What they must meet.

pub inside-set : (set' : Tables) (f : BookState) (g t i : ℕ) (m : Transfer) → Moving set' f g t i m → i < length set'.contracts
inside-set set' f g t i m moving =
    stands-inside set' m.contract i (stands set' f g i (account_at f.state.accounts g) (row_at set' f.rows (account_at f.state.accounts g).unit) m.contract (giver-reads set' f g t i m moving))

pub giver-takes : (set' : Tables) (f : BookState) (g t i : ℕ) (m : Transfer) → Moving set' f g t i m → IsChange set' (moved_change i (neg_ℤ m.quantity)) → TakesChange set' f.rows (giver_of f g i m)
giver-takes set' f g t i m moving change =
    let known = giver-reads set' f g t i m moving in
    let a = account_at f.state.accounts g in
    record {
      inside = unit-inside set' f g a moving.kept moving.giver known.was;
      row = (old-row set' f g i a (row_at set' f.rows a.unit) m.contract known).limits;
      change = change;
      roomy = giver-roomy set' f g t i m moving;
    }

pub taker-takes : (set' : Tables) (f : BookState) (g t i : ℕ) (m : Transfer) → Moving set' f g t i m → IsChange set' (moved_change i m.quantity) → TakesChange set' f.rows (taker_of f t i m)
taker-takes set' f g t i m moving change =
    let known = taker-reads set' f g t i m moving in
    let b = account_at f.state.accounts t in
    record {
      inside = unit-inside set' f t b moving.kept moving.taker known.was;
      row = (old-row set' f t i b (row_at set' f.rows b.unit) m.contract known).limits;
      change = change;
      roomy = taker-roomy set' f g t i m moving;
    }

-- What the book is afterwards, by its lists.

state-after : (origins : List Origin) (accounts now : List AccountState) (rows after : List Row) (closed : Bool) (version g t : ℕ) (m : Transfer) → now ≡ (with_move (book_state origins accounts rows closed version).state g t m).accounts → length after ≡ length rows
    → (book_state origins now after closed version).state ≡ with_move (book_state origins accounts rows closed version).state g t m
state-after origins accounts now rows after closed version g t m is long = λ j. record { origins = origins; accounts = is j; units = long j; closed = closed; version = version }

book-same : (origins : List Origin) (accounts now : List AccountState) (rows after : List Row) (closed : Bool) (version : ℕ) → now ≡ accounts → after ≡ rows → book_state origins now after closed version ≡ book_state origins accounts rows closed version
book-same origins accounts now rows after closed version one other = λ j. book_state origins (one j) (other j) closed version

pub names-after : (names : List (List ℕ)) (accounts now : List AccountState) (giver taker : Party) (result : Result (Unit {0}) StepFault) → taker.place ≢ giver.place → names ≡ account_names accounts → OnOk result (now ≡ with_both accounts giver taker) → OnErr result (now ≡ accounts) → names ≡ account_names now
names-after names accounts now giver taker (Ok done) apart are is same =
    names-kept names (set accounts giver.place (account_with accounts giver)) taker.place (account_with accounts taker) no_account
    (names-kept names accounts giver.place (account_with accounts giver) no_account are refl)
    (ap (λ (x : AccountState). x.name) (sym (get_or-set_other accounts giver.place taker.place (account_with accounts giver) no_account apart)))
    ∙ ap account_names (sym is)
names-after names accounts now giver taker (Err why) apart are is same = are ∙ ap account_names (sym same)

pub across-after : (set' : Tables) (origins : List Origin) (accounts now : List AccountState) (rows after : List Row) (closed : Bool) (version : ℕ) (g t i : ℕ) (m : Transfer) (result : Result (Unit {0}) StepFault) → Moving set' (book_state origins accounts rows closed version) g t i m → (account_at accounts t).unit ≢ (account_at accounts g).unit
    → EnteredAcross set' accounts rows (giver_of (book_state origins accounts rows closed version) g i m) (taker_of (book_state origins accounts rows closed version) t i m) result now after → IsKept set' (book_state origins now after closed version)
across-after set' origins accounts now rows after closed version g t i m (Ok done) moving units entered =
    subst (λ (x : List AccountState × List Row). IsKept set' (book_state origins x.0 x.1 closed version)) (λ j. (sym entered.accounts_are j, sym entered.rows_are j))
    (across-kept set' origins accounts rows closed version g t i m entered.giver_priced.0 entered.taker_priced.0 moving units entered.giver_priced.1 entered.taker_priced.1)
across-after set' origins accounts now rows after closed version g t i m (Err why) moving units entered =
    subst (IsKept set') (sym (book-same origins accounts now rows after closed version entered.same_accounts entered.same_rows)) moving.kept

pub within-after : (set' : Tables) (origins : List Origin) (accounts now : List AccountState) (rows after : List Row) (closed : Bool) (version : ℕ) (g t i : ℕ) (m : Transfer) (result : Result (Unit {0}) StepFault) → Moving set' (book_state origins accounts rows closed version) g t i m → (account_at accounts t).unit ≡ (account_at accounts g).unit
    → EnteredWithin set' accounts rows (giver_of (book_state origins accounts rows closed version) g i m) (taker_of (book_state origins accounts rows closed version) t i m) result now after → IsKept set' (book_state origins now after closed version)
within-after set' origins accounts now rows after closed version g t i m (Ok done) moving one entered =
    subst (λ (x : List AccountState × List Row). IsKept set' (book_state origins x.0 x.1 closed version)) (λ j. (sym entered.accounts_are j, sym entered.rows_are j))
    (within-kept set' origins accounts rows closed version g t i m moving one)
within-after set' origins accounts now rows after closed version g t i m (Err why) moving one entered =
    subst (IsKept set') (sym (book-same origins accounts now rows after closed version entered.same_accounts entered.same_rows)) moving.kept

pub across-steps : (set' : Tables) (origins : List Origin) (accounts now : List AccountState) (rows after : List Row) (closed : Bool) (version : ℕ) (g t i : ℕ) (m : Transfer) (result : Result (Unit {0}) StepFault) → Moving set' (book_state origins accounts rows closed version) g t i m
    → move_places set' (book_state origins accounts rows closed version).state m ≡ Ok (g, t, i) → (account_at accounts t).unit ≢ (account_at accounts g).unit
    → EnteredAcross set' accounts rows (giver_of (book_state origins accounts rows closed version) g i m) (taker_of (book_state origins accounts rows closed version) t i m) result now after
    → Steps (moved set' (book_state origins accounts rows closed version).state m) result (book_state origins accounts rows closed version) (book_state origins now after closed version)
across-steps set' origins accounts now rows after closed version g t i m result moving places units entered =
    across-answered set' f (book_state origins now after closed version) g t i m result moving places units entered.room (state result entered.accounts_are entered.rows_are) (same result entered.same_accounts entered.same_rows)
  where
    f : BookState
    f = book_state origins accounts rows closed version

    giver : Party
    giver = giver_of f g i m

    taker : Party
    taker = taker_of f t i m

    given : Row
    given = row_with set' giver.change (row_at set' rows giver.unit)

    taken : Row
    taken = row_with set' taker.change (row_at set' rows taker.unit)

    state : (x : Result (Unit {0}) StepFault) → OnOk x (now ≡ with_both accounts giver taker) → OnOk x (after ≡ set (set rows giver.unit given) taker.unit taken) → OnOk x ((book_state origins now after closed version).state ≡ with_move f.state g t m)
    state (Ok done) is rows_are = state-after origins accounts now rows after closed version g t m is (ap (λ (l : List Row). length l) rows_are ∙ length-set (set rows giver.unit given) taker.unit taken ∙ length-set rows giver.unit given)
    state (Err why) is rows_are = tt

    same : (x : Result (Unit {0}) StepFault) → OnErr x (now ≡ accounts) → OnErr x (after ≡ rows) → OnErr x (book_state origins now after closed version ≡ f)
    same (Ok done) one other = tt
    same (Err why) one other = book-same origins accounts now rows after closed version one other

pub within-steps : (set' : Tables) (origins : List Origin) (accounts now : List AccountState) (rows after : List Row) (closed : Bool) (version : ℕ) (g t i : ℕ) (m : Transfer) (result : Result (Unit {0}) StepFault) → Moving set' (book_state origins accounts rows closed version) g t i m
    → move_places set' (book_state origins accounts rows closed version).state m ≡ Ok (g, t, i) → (account_at accounts t).unit ≡ (account_at accounts g).unit
    → EnteredWithin set' accounts rows (giver_of (book_state origins accounts rows closed version) g i m) (taker_of (book_state origins accounts rows closed version) t i m) result now after
    → Steps (moved set' (book_state origins accounts rows closed version).state m) result (book_state origins accounts rows closed version) (book_state origins now after closed version)
within-steps set' origins accounts now rows after closed version g t i m result moving places one entered =
    within-answered set' f (book_state origins now after closed version) g t i m result moving places one entered.room (state result entered.accounts_are entered.rows_are) (same result entered.same_accounts entered.same_rows)
  where
    f : BookState
    f = book_state origins accounts rows closed version

    a : AccountState
    a = account_at accounts g

    row : Row
    row = row_with_size i (both_sizes m) (row_at set' rows a.unit)

    state : (x : Result (Unit {0}) StepFault) → OnOk x (now ≡ with_both accounts (giver_of f g i m) (taker_of f t i m)) → OnOk x (after ≡ set rows a.unit row) → OnOk x ((book_state origins now after closed version).state ≡ with_move f.state g t m)
    state (Ok done) is rows_are = state-after origins accounts now rows after closed version g t m is (ap (λ (l : List Row). length l) rows_are ∙ length-set rows a.unit row)
    state (Err why) is rows_are = tt

    same : (x : Result (Unit {0}) StepFault) → OnErr x (now ≡ accounts) → OnErr x (after ≡ rows) → OnErr x (book_state origins now after closed version ≡ f)
    same (Ok done) one' other = tt
    same (Err why) one' other = book-same origins accounts now rows after closed version one' other
